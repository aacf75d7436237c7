-- How bytes are cut into lines: the first line, and the lines of what follows it.
use Rattle.std.proofs.Common.{◌≡◌, ℕ, ◌+◌, ◌-◌, ◌<◌, Bool, true, false, cond, List, [], ◌∷◌, length, take, drop, sym, refl, ap, ◌∙◌, subst, one-add, arith, length-drop}
use Rattle.std.specs.List.{prefix_len}
use Rattle.lex.specs.Lines.{in_line, onto, lines_of, first_of, after_first}

cut_step : (t : Bool) (b : ℕ) (bs : List ℕ) (n : ℕ) → onto b (lines_of bs) ≡ (b ∷ take n bs) ∷ lines_of (drop 1 (drop n bs)) →
    cond t (onto b (lines_of bs)) ([] ∷ lines_of bs) ≡ take (cond t (1 + n) 0) (b ∷ bs) ∷ lines_of (drop 1 (drop (cond t (1 + n) 0) (b ∷ bs)))
cut_step true b bs n e =
    subst (λ i. onto b (lines_of bs) ≡ take i (b ∷ bs) ∷ lines_of (drop 1 (drop i (b ∷ bs)))) (sym (one-add n)) e
cut_step false b bs n e = refl

cut : (b : ℕ) (bs : List ℕ) → lines_of (b ∷ bs) ≡ first_of (b ∷ bs) ∷ lines_of (after_first (b ∷ bs))
cut b [] = cut_step (in_line b) b [] 0 refl
cut b (c ∷ cs) = cut_step (in_line b) b (c ∷ cs) (prefix_len in_line (c ∷ cs)) (ap (onto b) (cut c cs))

-- bytes that are not none are their first line and the lines of what follows it
pub lines_first : (bs : List ℕ) → 0 < length bs → lines_of bs ≡ first_of bs ∷ lines_of (after_first bs)
lines_first [] some = absurd (omega arith)
lines_first (b ∷ bs) some = cut b bs

after_length : (bs rest : List ℕ) → rest ≡ after_first bs → length rest ≡ length bs - prefix_len in_line bs - 1
after_length bs rest e = ap length e ∙ length-drop 1 (drop (prefix_len in_line bs) bs) ∙ ap (λ n. n - 1) (length-drop (prefix_len in_line bs) bs)

-- what follows the first line is shorter
pub after_shorter : (bs rest : List ℕ) → 0 < length bs → rest ≡ after_first bs → length rest < length bs
after_shorter bs rest some e = omega (arith, after_length bs rest e)
