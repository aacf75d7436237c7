use Rattle.std.proofs.Common.{codes, rules}
use Rattle.forms_model.specs.Calls.{name_of}
use Rattle.forms.proofs.Named.{named}
use Rattle.forms.proofs.call.call_name.Goals as goal

pub returns-in-start : goal.returns-in-start
returns-in-start c = named name_of c.args.word.now (codes "start") (search rules) (search rules)

pub returns-in-touch : goal.returns-in-touch
returns-in-touch c = named name_of c.args.word.now (codes "touch") (search rules) (search rules)

pub returns-in-collect : goal.returns-in-collect
returns-in-collect c = named name_of c.args.word.now (codes "collect") (search rules) (search rules)

pub returns-in-close : goal.returns-in-close
returns-in-close c = named name_of c.args.word.now (codes "close") (search rules) (search rules)
