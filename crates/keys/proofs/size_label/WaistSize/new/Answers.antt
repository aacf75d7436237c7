-- The value made is that of the definition.
use Rattle.keys.specs.Ranges.{wearable}
use Rattle.keys.specs.Makings.{if_so_lem}
use Rattle.keys.proofs.size_label.WaistSize.new.Goals as goal

pub returns-then-contains-2 : goal.returns-then-contains-2
returns-then-contains-2 c = if_so_lem (wearable c.args.waist c.args.leg) _ _ _
