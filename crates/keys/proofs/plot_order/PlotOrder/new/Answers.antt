-- The value made is that of the definition.
use Rattle.keys.specs.Ranges.{plottable}
use Rattle.keys.specs.Makings.{if_so_lem}
use Rattle.keys.proofs.plot_order.PlotOrder.new.Goals as goal

pub returns-then-contains : goal.returns-then-contains
returns-then-contains c = if_so_lem (plottable c.args.copies) _ _ _
