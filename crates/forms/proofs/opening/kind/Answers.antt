use Rattle.std.proofs.Common.{codes, rules}
use Rattle.forms_model.specs.Openings.{kind_of}
use Rattle.forms.proofs.Named.{named}
use Rattle.forms.proofs.opening.kind.Goals as goal

pub returns-in-cutting : goal.returns-in-cutting
returns-in-cutting c = named kind_of c.args.name.now (codes "cutting") (search rules) (search rules)

pub returns-in-pattern : goal.returns-in-pattern
returns-in-pattern c = named kind_of c.args.name.now (codes "pattern") (search rules) (search rules)
