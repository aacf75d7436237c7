-- The value made is that of the definition.
use Rattle.keys.specs.Ranges.{catalogued}
use Rattle.keys.specs.Makings.{if_so_lem}
use Rattle.keys.proofs.piece_code.PieceCode.new.Goals as goal

pub returns-then-contains : goal.returns-then-contains
returns-then-contains c = if_so_lem (catalogued c.args.letter c.args.number) _ _ _
