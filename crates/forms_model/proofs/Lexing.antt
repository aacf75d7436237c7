-- The tokens of printed bytes: brackets, spaces, words and numbers, one after another.
use Rattle.std.proofs.Common.{◌≡◌, ℕ, zero, suc, ◌+◌, ◌^◌, ◌<◌, ◌≤◌, Bool, true, false, cond, not, ◌&&◌, ◌||◌, eqb, ltb, ◌⊎◌, List, [], ◌∷◌, ◌++◌, length, get_or, take, Some, Ok, Err, decimal, Result, sym, refl, ap, ◌∙◌, inl, inr, ⊎_elim, append_assoc, arith, length-append, rules}
use Rattle.std.specs.Char.{is_ascii_digit, is_ascii_alphabetic, is_ascii_alphanumeric}
use Rattle.std.specs.List.{prefix_len}
use Rattle.std.proofs.lemmas.List.{take_at, drop_at}
use Rattle.std.proofs.lemmas.Str.Parse.{IsNumeralModel, numerals_by_fold}
use Rattle.std.proofs.lemmas.Fmt.{digits_decimal, digits_value-decimal, length-decimal-le, decimal_nonempty, first_decimal, decimal_digit}
use Rattle.std.proofs.lemmas.Bool.{and_parts}
use Rattle.std.proofs.lemmas.Bool.Decides.{nat_tests}
use Rattle.lex.specs.declared.fault.Fault.{Fault}
use Rattle.lex.specs.Runs.{Lexeme, opening, closing, word, number, all_digits, is_word, is_number, value_from, value_of, run_lexeme}
use Rattle.lex.specs.Tokens.{placed, lexed, joins, before, some, part_lexeme, extent}
use Rattle.lex.proofs.Parts.{lexed_inside}
use Rattle.forms_model.specs.ReadBack.{Lexes}

joins_before : (x : Lexeme) (r : Result (List Lexeme) Fault) → joins (Ok (Some x)) r ≡ before (x ∷ []) r
joins_before x (Ok xs) = refl
joins_before x (Err fault) = refl

before_none : (r : Result (List Lexeme) Fault) → r ≡ before [] r
before_none (Ok xs) = refl
before_none (Err fault) = refl

before_before : (xs ys : List Lexeme) (r : Result (List Lexeme) Fault) → before xs (before ys r) ≡ before (xs ++ ys) r
before_before xs ys (Ok zs) = ap (λ l. Ok l) (sym (append_assoc xs ys zs))
before_before xs ys (Err fault) = refl

-- a run is its token only where no letter or digit follows
abbrev pub LexesRun : (line byte : ℕ) → List ℕ → List Lexeme → Type 0
LexesRun line byte bytes tokens = (after : List ℕ) → prefix_len is_ascii_alphanumeric after ≡ 0 → lexed line byte 0 (bytes ++ after) ≡ before tokens (lexed line (byte + length bytes) 0 after)

pub lexes_open : (l i : ℕ) → Lexes l i (40 ∷ []) (opening (placed l i) ∷ [])
lexes_open l i after = joins_before (opening (placed l i)) (lexed l (i + 1) 0 after)

pub lexes_close : (l i : ℕ) → Lexes l i (41 ∷ []) (closing (placed l i) ∷ [])
lexes_close l i after = joins_before (closing (placed l i)) (lexed l (i + 1) 0 after)

pub lexes_space : (l i : ℕ) → Lexes l i (32 ∷ []) []
lexes_space l i after = before_none (lexed l (i + 1) 0 after)

module _ (l i : ℕ) (xs ys : List ℕ) (a b : List Lexeme) where
  joined_at : (after : List ℕ) → before a (before b (lexed l (i + length xs + length ys) 0 after)) ≡ before (a ++ b) (lexed l (i + length (xs ++ ys)) 0 after)
  joined_at after =
      let n : i + length xs + length ys ≡ i + length (xs ++ ys) = simp length-append (omega arith) in
      before_before a b (lexed l (i + length xs + length ys) 0 after) ∙ ap (λ j. before (a ++ b) (lexed l j 0 after)) n

  -- one text after another
  pub lexes_append : Lexes l i xs a → Lexes l (i + length xs) ys b → Lexes l i (xs ++ ys) (a ++ b)
  lexes_append p q after =
      ap (lexed l i 0) (append_assoc xs ys after) ∙ p (ys ++ after) ∙ ap (before a) (q after) ∙ joined_at after

-- a run, and a text after it that begins with no letter or digit
pub lexes_run_append : (l i s : ℕ) (xs ys : List ℕ) (a b : List Lexeme) → is_ascii_alphanumeric s ≡ false → LexesRun l i xs a → Lexes l (i + length xs) (s ∷ ys) b → Lexes l i (xs ++ (s ∷ ys)) (a ++ b)
lexes_run_append l i s xs ys a b stops p q after =
    ap (lexed l i 0) (append_assoc xs (s ∷ ys) after)
    ∙ p ((s ∷ ys) ++ after) (ap (λ t. cond t (1 + prefix_len is_ascii_alphanumeric (ys ++ after)) 0) stops)
    ∙ ap (before a) (q after) ∙ joined_at l i xs (s ∷ ys) a b after

abbrev all_in_run : List ℕ → Bool
all_in_run [] = true
all_in_run (b ∷ bs) = is_ascii_alphanumeric b && all_in_run bs

leading_run : (xs ys : List ℕ) → all_in_run xs ≡ true → prefix_len is_ascii_alphanumeric ys ≡ 0 → prefix_len is_ascii_alphanumeric (xs ++ ys) ≡ length xs
leading_run [] ys a e = e
leading_run (x ∷ xs) ys a e =
    let h : prefix_len is_ascii_alphanumeric (xs ++ ys) ≡ length xs = leading_run xs ys (and_parts (is_ascii_alphanumeric x) (all_in_run xs) a).1 e in
    ap (λ t. cond t (1 + prefix_len is_ascii_alphanumeric (xs ++ ys)) 0) (and_parts (is_ascii_alphanumeric x) (all_in_run xs) a).0 ∙ omega arith

run_step : (l i b : ℕ) (bs : List ℕ) (x : Lexeme) → is_ascii_alphanumeric b ≡ true → all_in_run bs ≡ true → part_lexeme (placed l i) (b ∷ bs) ≡ Ok (Some x) → LexesRun l i (b ∷ bs) (x ∷ [])
run_step l i b bs x r rs e after stops =
    let k : extent b (bs ++ after) ≡ length bs = ap (λ t. cond t (prefix_len is_ascii_alphanumeric (bs ++ after)) 0) r ∙ leading_run bs after rs stops in
    let n : i + 1 + length bs ≡ i + suc (length bs) = omega arith in
    ap (λ m. joins (part_lexeme (placed l i) (b ∷ take m (bs ++ after))) (lexed l (i + 1) m (bs ++ after))) k
    ∙ ap (λ f. joins (part_lexeme (placed l i) (b ∷ f)) (lexed l (i + 1) (length bs) (bs ++ after))) (take_at bs after (length bs) refl)
    ∙ ap (joins (part_lexeme (placed l i) (b ∷ bs))) (lexed_inside l (i + 1) (length bs) (bs ++ after) ∙ ap (lexed l (i + 1 + length bs) 0) (drop_at bs after (length bs) refl))
    ∙ ap (λ p. joins p (lexed l (i + 1 + length bs) 0 after)) e
    ∙ joins_before x (lexed l (i + 1 + length bs) 0 after)
    ∙ ap (λ j. before (x ∷ []) (lexed l j 0 after)) n

-- a byte of a run is no space and no bracket
run_part : (l i b : ℕ) (bs : List ℕ) → is_ascii_alphanumeric b ≡ true → part_lexeme (placed l i) (b ∷ bs) ≡ some (run_lexeme (placed l i) (b ∷ bs))
run_part l i b bs r =
    let spaces : eqb b 32 ≡ false = grind (arith, nat_tests) in
    let opens : eqb b 40 ≡ false = grind (arith, nat_tests) in
    let closes : eqb b 41 ≡ false = grind (arith, nat_tests) in
    rw (spaces, opens, closes, r) refl

letter_in_run : (b : ℕ) → is_ascii_alphabetic b ≡ true → is_ascii_alphanumeric b ≡ true
letter_in_run b e = grind (arith, nat_tests)

-- a word, by its first byte and the rest
pub lexes_word : (l i b : ℕ) (bs : List ℕ) → is_ascii_alphabetic b ≡ true → ltb (length bs) 8 ≡ true → all_in_run bs ≡ true → LexesRun l i (b ∷ bs) (word (b ∷ bs) (placed l i) ∷ [])
lexes_word l i b bs letter short rs =
    let r = letter_in_run b letter in
    let is : is_word b bs ≡ true = ap (λ t. t && ltb (length bs) 8) letter ∙ short in
    let run : run_lexeme (placed l i) (b ∷ bs) ≡ Ok (word (b ∷ bs) (placed l i)) = rw is refl in
    run_step l i b bs (word (b ∷ bs) (placed l i)) r rs (run_part l i b bs r ∙ ap some run)

own : IsNumeralModel (λ ds. all_digits ds ≡ true) (value_from 0)
own = numerals_by_fold _ (search rules) value_from (search rules)

digit_in_run : (b : ℕ) → is_ascii_digit b ≡ true → is_ascii_alphanumeric b ≡ true
digit_in_run b e = grind (arith, nat_tests)

digits_in_run : (bs : List ℕ) → all_digits bs ≡ true → all_in_run bs ≡ true
digits_in_run [] e = refl
digits_in_run (b ∷ bs) e =
    let p = and_parts (is_ascii_digit b) (all_digits bs) e in
    ap (λ t. t && all_in_run bs) (digit_in_run b p.0) ∙ digits_in_run bs p.1

not_letter : (b : ℕ) → is_ascii_digit b ≡ true → is_ascii_alphabetic b ≡ false
not_letter b e = grind (arith, nat_tests)

zero_alone : (b : ℕ) (bs : List ℕ) → (48 < b) ⊎ (length bs ≡ 0) → (not (eqb b 48) || eqb (length bs) 0) ≡ true
zero_alone b bs (inl h) = grind (arith, nat_tests)
zero_alone b bs (inr h) = grind (arith, nat_tests)

short_test : (m : ℕ) → m < 5 → ltb m 5 ≡ true
short_test m h = grind (arith, nat_tests)

digits_lex : (l i n : ℕ) (ds : List ℕ) → all_digits ds ≡ true → value_from 0 ds ≡ n → length ds ≤ 5 → 0 < length ds → (48 < get_or ds 0 0) ⊎ (length ds ≡ 1) → LexesRun l i ds (number ds n (placed l i) ∷ [])
digits_lex l i n [] a v short more z = absurd (omega arith)
digits_lex l i n (b ∷ bs) a v short more z =
    let p = and_parts (is_ascii_digit b) (all_digits bs) a in
    let r = digit_in_run b p.0 in
    let z' : (48 < b) ⊎ (length bs ≡ 0) = ⊎_elim (λ h. inl h) (λ h. inr (omega arith)) z in
    let small : ltb (length bs) 5 ≡ true = short_test (length bs) (omega arith) in
    let zeros = zero_alone b bs z' in
    let no : is_word b bs ≡ false = ap (λ t. t && ltb (length bs) 8) (not_letter b p.0) in
    let yes : is_number b bs ≡ true = rw (p.0, p.1, small, zeros) refl in
    let run : run_lexeme (placed l i) (b ∷ bs) ≡ Ok (number (b ∷ bs) (value_of (b ∷ bs)) (placed l i)) = rw (no, yes) refl in
    run_step l i b bs (number (b ∷ bs) n (placed l i)) r (digits_in_run bs p.1)
    (run_part l i b bs r ∙ ap some run ∙ ap (λ m. Ok (Some (number (b ∷ bs) m (placed l i)))) v)

no_zero : (n : ℕ) → n < 2 ^ 64 → (48 < get_or (decimal n) 0 0) ⊎ (length (decimal n) ≡ 1)
no_zero zero h = inr (ap length (decimal_digit 0 (omega arith)))
no_zero (suc n) h = inl (first_decimal (suc n) (omega arith) h)

-- a number of at most five digits
pub lexes_number : (l i n : ℕ) → n < 100000 → LexesRun l i (decimal n) (number (decimal n) n (placed l i) ∷ [])
lexes_number l i n small =
    let h : n < 2 ^ 64 = omega arith in
    digits_lex l i n (decimal n) (digits_decimal own n h) (digits_value-decimal own n h) (length-decimal-le 5 n (omega arith) (omega arith) h) (decimal_nonempty n h) (no_zero n h)
