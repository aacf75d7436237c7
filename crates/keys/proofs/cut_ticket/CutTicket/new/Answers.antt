-- The value made is that of the definition.
use Rattle.keys.specs.Ranges.{spreadable}
use Rattle.keys.specs.Makings.{if_so_lem}
use Rattle.keys.proofs.cut_ticket.CutTicket.new.Goals as goal

pub returns-then-contains : goal.returns-then-contains
returns-then-contains c = if_so_lem (spreadable c.args.plies) _ _ _
