-- Cut tickets and plot orders: which are made and how they print.
use Rattle.std.specs.Prelude.{ℕ, List, ◌++◌, Ok, Err, codes, decimal, Result}
use Rattle.keys.specs.declared.refusal.Refusal.{Refusal}
use Rattle.keys.specs.declared.refusal.Refusal.TheVariants.{OutOfRange}
use Rattle.keys.specs.declared.size_label.SizeLabel.{SizeLabel}
use Rattle.keys.specs.declared.piece_code.PieceCode.{PieceCode}
use Rattle.keys.specs.declared.cut_ticket.CutTicket.{CutTicket}
use Rattle.keys.specs.declared.plot_order.PlotOrder.{PlotOrder}
use Rattle.keys.specs.Ranges.{spreadable, plottable, if_so}
use Rattle.keys.specs.Sizes.{size_text}
use Rattle.keys.specs.Pieces.{piece_text}

-- exactly the tickets in range are made
abbrev pub cut_ticket : SizeLabel → ℕ → Result CutTicket Refusal
cut_ticket size plies = if_so (spreadable plies) (λ p. Ok (record { size = size; plies = plies; fits = p })) (Err OutOfRange)

-- exactly the orders in range are made
abbrev pub plot_order : PieceCode → ℕ → Result PlotOrder Refusal
plot_order piece copies = if_so (plottable copies) (λ p. Ok (record { piece = piece; copies = copies; fits = p })) (Err OutOfRange)

abbrev pub ticket_text : CutTicket → List ℕ
ticket_text t = codes "(ticket " ++ (size_text t.size ++ (codes " " ++ (decimal t.plies ++ codes ")")))

abbrev pub order_text : PlotOrder → List ℕ
order_text o = codes "(order " ++ (piece_text o.piece ++ (codes " " ++ (decimal o.copies ++ codes ")")))
