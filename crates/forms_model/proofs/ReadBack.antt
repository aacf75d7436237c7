-- Every printed key, element and operation reads back to itself.
use Rattle.std.proofs.Common.{◌≡◌, ℕ, ◌+◌, ◌<◌, true, List, [], ◌∷◌, ◌++◌, length, Some, Ok, codes, decimal, Option, Result, sym, refl, ap, ◌∙◌, append_assoc, append-nil, arith}
use Rattle.std.specs.Str.{bytes_eq}
use Rattle.std.specs.Char.{is_ascii_alphabetic, is_ascii_uppercase}
use Rattle.std.proofs.lemmas.Bool.Decides.{nat_tests}
use Rattle.lex.specs.Runs.{Lexeme, opening, closing, word, number}
use Rattle.lex.specs.Tokens.{placed}
use Rattle.keys.specs.Elements.{cut_ticket, ticket_text, plot_order, order_text}
use Rattle.keys.specs.Pieces.{piece_code, piece_text}
use Rattle.keys.specs.Ranges.{wearable, catalogued, spreadable, plottable}
use Rattle.keys.specs.Sizes.{waist_size, letter_text, size_text}
use Rattle.keys.specs.Makings.{if_so_lem}
use Rattle.keys.specs.declared.refusal.Refusal.{Refusal}
use Rattle.keys.specs.declared.size_label.LetterSize.{LetterSize}
use Rattle.keys.specs.declared.size_label.LetterSize.TheVariants.{Xs, S, M, L, Xl, Xxl}
use Rattle.keys.specs.declared.size_label.WaistSize.{WaistSize}
use Rattle.keys.specs.declared.size_label.SizeLabel.TheVariants.{Letter, Waist}
use Rattle.keys.specs.declared.piece_code.PieceCode.{PieceCode}
use Rattle.keys.specs.declared.cut_ticket.CutTicket.{CutTicket}
use Rattle.keys.specs.declared.plot_order.PlotOrder.{PlotOrder}
use Rattle.plain_model.specs.Printed.{nest_op_text, line_op_text, side_text}
use Rattle.plain_model.specs.declared.nest_op.NestOp.TheVariants as nest
use Rattle.plain_model.specs.declared.line_op.LineOp.TheVariants as line
use Rattle.plain_model.specs.declared.side.Side.TheVariants.{First, Second}
use Rattle.forms_model.specs.declared.verb.NestVerb.{NestVerb}
use Rattle.forms_model.specs.declared.verb.NestVerb.TheVariants.{Add, Drop, Find}
use Rattle.forms_model.specs.declared.verb.Verb.{Verb}
use Rattle.forms_model.specs.declared.verb.Verb.TheVariants.{Nest}
use Rattle.forms_model.specs.Reading.{Parsed, and_then, or_none, number_at, close_at, if_made, whole, whole_of, form_of, line_form, or_no_form}
use Rattle.forms_model.specs.Rules.{Rules}
use Rattle.forms_model.specs.Counted.{counted_of, made_at}
use Rattle.forms_model.specs.Operations.{verb_of, asked, operation_body, operation_at}
use Rattle.forms_model.specs.Cutting.{letter_of, size_at, ticket_at}
use Rattle.forms_model.specs.Pattern.{piece_at, order_at}
use Rattle.forms_model.specs.ReadBack.{Lexes, ReadsBack, ReadsBackAlone}
use Rattle.forms_model.proofs.Lexing.{LexesRun, lexes_open, lexes_close, lexes_space, lexes_append, lexes_run_append, lexes_word, lexes_number}

-- a space or a closing bracket after a run
run_space : (l i : ℕ) (xs ys : List ℕ) (a b : List Lexeme) → LexesRun l i xs a → Lexes l (i + length xs + 1) ys b → Lexes l i (xs ++ (32 ∷ ys)) (a ++ b)
run_space l i xs ys a b p q = lexes_run_append l i 32 xs ys a b refl p (lexes_append l (i + length xs) (32 ∷ []) ys [] b (lexes_space l (i + length xs)) q)

run_close : (l i : ℕ) (xs : List ℕ) (a : List Lexeme) → LexesRun l i xs a → Lexes l i (xs ++ (41 ∷ [])) (a ++ (closing (placed l (i + length xs)) ∷ []))
run_close l i xs a p = lexes_run_append l i 41 xs [] a (closing (placed l (i + length xs)) ∷ []) refl p (lexes_close l (i + length xs))

-- an opening bracket, a word and a space, before a text
heads : (l i b : ℕ) (bs ys : List ℕ) (x : List Lexeme) → LexesRun l (i + 1) (b ∷ bs) (word (b ∷ bs) (placed l (i + 1)) ∷ []) → Lexes l (i + 1 + length (b ∷ bs) + 1) ys x →
    Lexes l i (40 ∷ ((b ∷ bs) ++ (32 ∷ ys))) (opening (placed l i) ∷ word (b ∷ bs) (placed l (i + 1)) ∷ x)
heads l i b bs ys x p q =
    lexes_append l i (40 ∷ []) ((b ∷ bs) ++ (32 ∷ ys)) (opening (placed l i) ∷ []) (word (b ∷ bs) (placed l (i + 1)) ∷ x) (lexes_open l i)
    (run_space l (i + 1) (b ∷ bs) ys (word (b ∷ bs) (placed l (i + 1)) ∷ []) x p q)

waist_made : (w : WaistSize) → waist_size w.waist w.leg ≡ Ok w
waist_made w = sym (if_so_lem (wearable w.waist w.leg) _ _ w.fits)

waist_small : (waist leg : ℕ) → wearable waist leg ≡ true → waist < 100000
waist_small waist leg e = grind (arith, nat_tests)

leg_small : (waist leg : ℕ) → wearable waist leg ≡ true → leg < 100000
leg_small waist leg e = grind (arith, nat_tests)

letter_lexes : (s : LetterSize) (l i : ℕ) → LexesRun l i (letter_text s) (word (letter_text s) (placed l i) ∷ [])
letter_lexes Xs l i = lexes_word l i 120 (115 ∷ []) refl refl refl
letter_lexes S l i = lexes_word l i 115 [] refl refl refl
letter_lexes M l i = lexes_word l i 109 [] refl refl refl
letter_lexes L l i = lexes_word l i 108 [] refl refl refl
letter_lexes Xl l i = lexes_word l i 120 (108 ∷ []) refl refl refl
letter_lexes Xxl l i = lexes_word l i 120 (120 ∷ 108 ∷ []) refl refl refl

letter_named : (s : LetterSize) → letter_of (letter_text s) ≡ Some s
letter_named Xs = refl
letter_named S = refl
letter_named M = refl
letter_named L = refl
letter_named Xl = refl
letter_named Xxl = refl

pub size_reads_back : ReadsBack size_text size_at
size_reads_back (Letter s) l i =
    let j : ℕ = i + 1 + 6 + 1 in (
      opening (placed l i) ∷ word (codes "letter") (placed l (i + 1)) ∷ word (letter_text s) (placed l j) ∷ closing (placed l (j + length (letter_text s))) ∷ [],
      heads l i 108 (101 ∷ 116 ∷ 116 ∷ 101 ∷ 114 ∷ []) (letter_text s ++ (41 ∷ [])) (word (letter_text s) (placed l j) ∷ closing (placed l (j + length (letter_text s))) ∷ [])
          (lexes_word l (i + 1) 108 (101 ∷ 116 ∷ 116 ∷ 101 ∷ 114 ∷ []) refl refl refl)
          (run_close l j (letter_text s) (word (letter_text s) (placed l j) ∷ []) (letter_lexes s l j)),
      λ after. rw (letter_named s) refl,
    )
size_reads_back (Waist w) l i =
    let j : ℕ = i + 1 + 1 + 1 in
    let k : ℕ = j + length (decimal w.waist) + 1 in (
      opening (placed l i) ∷ word (codes "w") (placed l (i + 1)) ∷ number (decimal w.waist) w.waist (placed l j) ∷ number (decimal w.leg) w.leg (placed l k) ∷ closing (placed l (k + length (decimal w.leg))) ∷ [],
      heads l i 119 [] (decimal w.waist ++ (32 ∷ (decimal w.leg ++ (41 ∷ [])))) (number (decimal w.waist) w.waist (placed l j) ∷ number (decimal w.leg) w.leg (placed l k) ∷ closing (placed l (k + length (decimal w.leg))) ∷ [])
          (lexes_word l (i + 1) 119 [] refl refl refl)
          (run_space l j (decimal w.waist) (decimal w.leg ++ (41 ∷ [])) (number (decimal w.waist) w.waist (placed l j) ∷ []) (number (decimal w.leg) w.leg (placed l k) ∷ closing (placed l (k + length (decimal w.leg))) ∷ [])
          (lexes_number l j w.waist (waist_small w.waist w.leg w.fits))
          (run_close l k (decimal w.leg) (number (decimal w.leg) w.leg (placed l k) ∷ []) (lexes_number l k w.leg (leg_small w.waist w.leg w.fits)))),
      λ after. ap (λ (r : Result WaistSize Refusal). Some (if_made (λ size. Ok (Waist size)) r, after)) (waist_made w),
    )

-- Forms around a key or an element: `(word X)` and `(word X n)`.
module _ {A : Type 0} (text : A → List ℕ) (at : List Lexeme → Parsed (Result A Refusal)) (back : ReadsBack text at) (l i b : ℕ) (bs : List ℕ)
    (named : LexesRun l (i + 1) (b ∷ bs) (word (b ∷ bs) (placed l (i + 1)) ∷ [])) (x : A) where
  -- where the inner text begins and ends
  abbrev inside : ℕ
  inside = i + 1 + length (b ∷ bs) + 1

  abbrev outside : ℕ
  outside = inside + length (text x)

  abbrev inner : List Lexeme
  inner = (back x l inside).0

  -- the tokens after the inner text, and all of them
  abbrev close_ends : List Lexeme
  close_ends = closing (placed l outside) ∷ []

  abbrev count_ends : ℕ → List Lexeme
  count_ends n = number (decimal n) n (placed l (outside + 1)) ∷ closing (placed l (outside + 1 + length (decimal n))) ∷ []

  abbrev around : List Lexeme → List Lexeme
  around ends = opening (placed l i) ∷ word (b ∷ bs) (placed l (i + 1)) ∷ (inner ++ ends)

  close_lexes : Lexes l i (40 ∷ ((b ∷ bs) ++ (32 ∷ (text x ++ (41 ∷ []))))) (around close_ends)
  close_lexes =
      heads l i b bs (text x ++ (41 ∷ [])) (inner ++ close_ends) named
      (lexes_append l inside (text x) (41 ∷ []) inner close_ends (back x l inside).1 (lexes_close l outside))

  count_lexes : (n : ℕ) → n < 100000 → Lexes l i (40 ∷ ((b ∷ bs) ++ (32 ∷ (text x ++ (32 ∷ (decimal n ++ (41 ∷ []))))))) (around (count_ends n))
  count_lexes n small =
      heads l i b bs (text x ++ (32 ∷ (decimal n ++ (41 ∷ [])))) (inner ++ count_ends n) named
      (lexes_append l inside (text x) (32 ∷ (decimal n ++ (41 ∷ []))) inner (count_ends n) (back x l inside).1
      (lexes_append l outside (32 ∷ []) (decimal n ++ (41 ∷ [])) [] (count_ends n) (lexes_space l outside)
      (run_close l (outside + 1) (decimal n) (number (decimal n) n (placed l (outside + 1)) ∷ []) (lexes_number l (outside + 1) n small))))

  inner_read : (ends after : List Lexeme) → at ((inner ++ ends) ++ after) ≡ Some (Ok x, ends ++ after)
  inner_read ends after = ap at (append_assoc inner ends after) ∙ (back x l inside).2 (ends ++ after)

-- an element that is made of a key and a count
module _ {K E : Type 0} (text : K → List ℕ) (at : List Lexeme → Parsed (Result K Refusal)) (back : ReadsBack text at) (made : K → ℕ → Result E Refusal) (b : ℕ) (bs : List ℕ)
    (named : (l i : ℕ) → LexesRun l i (b ∷ bs) (word (b ∷ bs) (placed l i) ∷ [])) (same : bytes_eq (b ∷ bs) (b ∷ bs) ≡ true) where
  counted_reads_back : (k : K) (n : ℕ) (x : E) → n < 100000 → made k n ≡ Ok x → (l i : ℕ) →
      (tokens : List Lexeme) × Lexes l i (40 ∷ ((b ∷ bs) ++ (32 ∷ (text k ++ (32 ∷ (decimal n ++ (41 ∷ []))))))) tokens × ((after : List Lexeme) → made_at (b ∷ bs) at made (tokens ++ after) ≡ Some (Ok x, after))
  counted_reads_back k n x small is l i =
      let ends : List Lexeme = count_ends text at back l i b bs (named l (i + 1)) k n in (
        around text at back l i b bs (named l (i + 1)) k ends,
        count_lexes text at back l i b bs (named l (i + 1)) k n small,
        λ after. rw same
            (ap (λ (r : Parsed (Result K Refusal)). and_then {A = Result K Refusal × ℕ} (and_then {B = Result K Refusal × ℕ} r (λ key xs. and_then (number_at xs) (λ count xs. and_then (close_at xs) (λ _ xs. Some ((key, count), xs))))) (λ counted xs. Some (counted_of made counted.0 counted.1, xs)))
            (inner_read text at back l i b bs (named l (i + 1)) k ends after)
            ∙ ap (λ (r : Result E Refusal). Some (r, after)) is),
      )

plies_small : (plies : ℕ) → spreadable plies ≡ true → plies < 100000
plies_small plies e = grind (arith, nat_tests)

ticket_made : (t : CutTicket) → cut_ticket t.size t.plies ≡ Ok t
ticket_made t = sym (if_so_lem (spreadable t.plies) _ _ t.fits)

pub ticket_reads_back : ReadsBack ticket_text ticket_at
ticket_reads_back t =
    let bs : List ℕ = 105 ∷ 99 ∷ 107 ∷ 101 ∷ 116 ∷ [] in
    counted_reads_back size_text size_at size_reads_back cut_ticket 116 bs (λ l i. lexes_word l i 116 bs refl refl refl) refl t.size t.plies t (plies_small t.plies t.fits) (ticket_made t)

piece_made : (p : PieceCode) → piece_code p.letter p.number ≡ Ok p
piece_made p = sym (if_so_lem (catalogued p.letter p.number) _ _ p.fits)

number_small : (letter code : ℕ) → catalogued letter code ≡ true → code < 100000
number_small letter code e = grind (arith, nat_tests)

letter_upper : (letter code : ℕ) → catalogued letter code ≡ true → is_ascii_uppercase letter ≡ true
letter_upper letter code e = grind (arith, nat_tests)

letter_letter : (letter code : ℕ) → catalogued letter code ≡ true → is_ascii_alphabetic letter ≡ true
letter_letter letter code e = grind (arith, nat_tests)

pub piece_reads_back : ReadsBack piece_text piece_at
piece_reads_back p l i =
    let bs : List ℕ = 105 ∷ 101 ∷ 99 ∷ 101 ∷ [] in
    let j : ℕ = i + 1 + 5 + 1 in
    let k : ℕ = j + 1 + 1 in
    let upper = letter_upper p.letter p.number p.fits in (
      opening (placed l i) ∷ word (codes "piece") (placed l (i + 1)) ∷ word (p.letter ∷ []) (placed l j) ∷ number (decimal p.number) p.number (placed l k) ∷ closing (placed l (k + length (decimal p.number))) ∷ [],
      heads l i 112 bs ((p.letter ∷ []) ++ (32 ∷ (decimal p.number ++ (41 ∷ [])))) (word (p.letter ∷ []) (placed l j) ∷ number (decimal p.number) p.number (placed l k) ∷ closing (placed l (k + length (decimal p.number))) ∷ [])
          (lexes_word l (i + 1) 112 bs refl refl refl)
          (run_space l j (p.letter ∷ []) (decimal p.number ++ (41 ∷ [])) (word (p.letter ∷ []) (placed l j) ∷ []) (number (decimal p.number) p.number (placed l k) ∷ closing (placed l (k + length (decimal p.number))) ∷ [])
          (lexes_word l j p.letter [] (letter_letter p.letter p.number p.fits) refl refl)
          (run_close l k (decimal p.number) (number (decimal p.number) p.number (placed l k) ∷ []) (lexes_number l k p.number (number_small p.letter p.number p.fits)))),
      λ after. rw upper (ap (λ (r : Result PieceCode Refusal). Some (r, after)) (piece_made p)),
    )

copies_small : (copies : ℕ) → plottable copies ≡ true → copies < 100000
copies_small copies e = grind (arith, nat_tests)

order_made : (o : PlotOrder) → plot_order o.piece o.copies ≡ Ok o
order_made o = sym (if_so_lem (plottable o.copies) _ _ o.fits)

pub order_reads_back : ReadsBack order_text order_at
order_reads_back o =
    let bs : List ℕ = 114 ∷ 100 ∷ 101 ∷ 114 ∷ [] in
    counted_reads_back piece_text piece_at piece_reads_back plot_order 111 bs (λ l i. lexes_word l i 111 bs refl refl refl) refl o.piece o.copies o (copies_small o.copies o.fits) (order_made o)

-- Operations read back wherever keys and elements do.
module _ {K E : Type 0} (key_text : K → List ℕ) (element_text : E → List ℕ) (rules : Rules K E) (keys : ReadsBack key_text rules.key_at) (elements : ReadsBack element_text rules.element_at) where
  key_form : (verb : NestVerb) (l i b : ℕ) (bs : List ℕ) (k : K) → verb_of (b ∷ bs) ≡ Some (Nest verb) → LexesRun l (i + 1) (b ∷ bs) (word (b ∷ bs) (placed l (i + 1)) ∷ []) →
      (tokens : List Lexeme) × Lexes l i (40 ∷ ((b ∷ bs) ++ (32 ∷ (key_text k ++ (41 ∷ []))))) tokens × ((after : List Lexeme) → operation_at rules (tokens ++ after) ≡ Some (Ok (First (asked verb k)), after))
  key_form verb l i b bs k is named =
      let ends : List Lexeme = close_ends key_text rules.key_at keys l i b bs named k in (
        around key_text rules.key_at keys l i b bs named k ends,
        close_lexes key_text rules.key_at keys l i b bs named k,
        λ after. ap (λ (o : Option Verb). and_then (or_none o ((inner key_text rules.key_at keys l i b bs named k ++ ends) ++ after)) (λ verb xs. and_then (operation_body rules verb xs) (λ operation xs. and_then (close_at xs) (λ _ xs. Some (operation, xs))))) is
            ∙ ap (λ (r : Parsed (Result K Refusal)). and_then (and_then r (λ key xs. Some (if_made (λ x. Ok (First (asked verb x))) key, xs))) (λ operation xs. and_then (close_at xs) (λ _ xs. Some (operation, xs))))
            (inner_read key_text rules.key_at keys l i b bs named k ends after),
      )

  pub operation_reads_back : ReadsBack (side_text (nest_op_text key_text) (line_op_text element_text)) (operation_at rules)
  operation_reads_back (First (nest.Add k)) l i = key_form Add l i 97 (100 ∷ 100 ∷ []) k refl (lexes_word l (i + 1) 97 (100 ∷ 100 ∷ []) refl refl refl)
  operation_reads_back (First (nest.Drop k)) l i = key_form Drop l i 100 (114 ∷ 111 ∷ 112 ∷ []) k refl (lexes_word l (i + 1) 100 (114 ∷ 111 ∷ 112 ∷ []) refl refl refl)
  operation_reads_back (First (nest.Find k)) l i = key_form Find l i 102 (105 ∷ 110 ∷ 100 ∷ []) k refl (lexes_word l (i + 1) 102 (105 ∷ 110 ∷ 100 ∷ []) refl refl refl)
  operation_reads_back (Second (line.Put e)) l i =
      let bs : List ℕ = 117 ∷ 116 ∷ [] in
      let named = lexes_word l (i + 1) 112 bs refl refl refl in
      let ends : List Lexeme = close_ends element_text rules.element_at elements l i 112 bs named e in (
        around element_text rules.element_at elements l i 112 bs named e ends,
        close_lexes element_text rules.element_at elements l i 112 bs named e,
        λ after. ap (λ (r : Parsed (Result E Refusal)). and_then (and_then r (λ element xs. Some (if_made (λ x. Ok (Second (line.Put x))) element, xs))) (λ operation xs. and_then (close_at xs) (λ _ xs. Some (operation, xs))))
            (inner_read element_text rules.element_at elements l i 112 bs named e ends after),
      )
  operation_reads_back (Second line.Take) l i =
      let bs : List ℕ = 97 ∷ 107 ∷ 101 ∷ [] in (
        opening (placed l i) ∷ word (codes "take") (placed l (i + 1)) ∷ closing (placed l (i + 1 + 4)) ∷ [],
        lexes_append l i (40 ∷ []) (codes "take" ++ (41 ∷ [])) (opening (placed l i) ∷ []) (word (codes "take") (placed l (i + 1)) ∷ closing (placed l (i + 1 + 4)) ∷ []) (lexes_open l i)
            (run_close l (i + 1) (codes "take") (word (codes "take") (placed l (i + 1)) ∷ []) (lexes_word l (i + 1) 116 bs refl refl refl)),
        λ after. refl,
      )

-- a line of nothing but a value's text
pub reads_back_alone : {A : Type 0} (text : A → List ℕ) (at : List Lexeme → Parsed (Result A Refusal)) → ReadsBack text at → ReadsBackAlone text at
reads_back_alone text at back x l =
    let b = back x l 1 in
    ap (line_form at l) (sym (append-nil (text x)))
    ∙ ap (form_of (whole_of at) l) (b.1 [])
    ∙ ap (λ r. or_no_form l (whole r)) (b.2 [])
