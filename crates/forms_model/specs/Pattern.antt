-- How a piece code and a plot order are read.
use Rattle.std.specs.Prelude.{ℕ, cond, List, [], ◌∷◌, Some, None, codes, Option, Result, refl}
use Rattle.std.specs.Char.{is_ascii_uppercase}
use Rattle.lex.specs.Runs.{Lexeme}
use Rattle.keys.specs.Elements.{plot_order, order_text}
use Rattle.keys.specs.Pieces.{piece_code, before, piece_text}
use Rattle.keys.specs.declared.refusal.Refusal.{Refusal}
use Rattle.keys.specs.declared.piece_code.PieceCode.{PieceCode}
use Rattle.keys.specs.declared.plot_order.PlotOrder.{PlotOrder}
use Rattle.forms_model.specs.Reading.{Parsed, and_then, or_none, open_at, close_at, word_at, number_at, keyword_at}
use Rattle.forms_model.specs.Counted.{counted_of, made_at}
use Rattle.forms_model.specs.Rules.{Rules}

-- a word of one capital letter
abbrev pub capital_of : List ℕ → Option ℕ
capital_of [] = None
capital_of (b ∷ []) = cond (is_ascii_uppercase b) (Some b) None
capital_of (b ∷ c ∷ bs) = None

-- (piece A 12)
abbrev pub piece_at : List Lexeme → Parsed (Result PieceCode Refusal)
piece_at xs = and_then (open_at xs) (λ _ xs. and_then (keyword_at (codes "piece") xs) (λ _ xs. and_then (word_at xs) (λ name xs. and_then (or_none (capital_of name) xs) (λ letter xs. and_then (number_at xs) (λ number xs. and_then (close_at xs) (λ _ xs. Some (piece_code letter number, xs)))))))

abbrev pub order_of : Result PieceCode Refusal → ℕ → Result PlotOrder Refusal
order_of = counted_of plot_order

-- (order (piece A 12) 3)
abbrev pub order_at : List Lexeme → Parsed (Result PlotOrder Refusal)
order_at = made_at (codes "order") piece_at plot_order

-- a piece code and a plot order that fill the unused nodes of a pattern floor; nothing shows them
abbrev pub blank_piece : PieceCode
blank_piece = record { letter = 65; number = 1; fits = refl }

abbrev pub blank_order : PlotOrder
blank_order = record { piece = blank_piece; copies = 1; fits = refl }

abbrev pub pattern_rules : Rules PieceCode PlotOrder
pattern_rules = record {
  before = before;
  key_text = piece_text;
  element_text = order_text;
  key_at = piece_at;
  element_at = order_at;
  blank_key = blank_piece;
  blank_element = blank_order;
}
