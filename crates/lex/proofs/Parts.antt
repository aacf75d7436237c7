-- What one part of a line adds to the tokens read so far.
use Rattle.std.proofs.Common.{◌≡◌, ℕ, zero, suc, ◌+◌, ◌<◌, List, [], ◌∷◌, ◌++◌, map, length, get_or, take, drop, Some, Ok, Err, Result, sym, refl, ap, ◌∙◌, subst, append_assoc, add-zero, add-one, arith}
use Rattle.std.specs.List.{between}
use Rattle.std.proofs.lemmas.Slice.{first_rest}
use Rattle.std.proofs.lemmas.List.{map_push}
use Rattle.lex.specs.declared.token.Place.{Place}
use Rattle.lex.specs.declared.token.Token.{Token}
use Rattle.lex.specs.declared.fault.Fault.{Fault}
use Rattle.lex.specs.Runs.{Lexeme, lexeme}
use Rattle.lex.specs.Tokens.{extent, placed, part_lexeme, joins, lexed, before}

-- the bytes that belong to the part before are passed over
pub lexed_inside : (line byte inside : ℕ) (bs : List ℕ) → lexed line byte inside bs ≡ lexed line (byte + inside) 0 (drop inside bs)
lexed_inside line byte zero [] = refl
lexed_inside line byte zero (b ∷ bs) = ap (λ j. lexed line j 0 (b ∷ bs)) (sym (add-zero byte))
lexed_inside line byte (suc inside) [] = refl
lexed_inside line byte (suc inside) (b ∷ bs) =
    let e : byte + 1 + inside ≡ byte + suc inside = omega arith in
    lexed_inside line (byte + 1) inside bs ∙ ap (λ j. lexed line j 0 (drop inside bs)) e

step_cons : (l i b k : ℕ) (bs : List ℕ) → k ≡ extent b bs →
    lexed l i 0 (b ∷ bs) ≡ joins (part_lexeme (placed l i) (take (suc k) (b ∷ bs))) (lexed l (i + 1 + k) 0 (drop (suc k) (b ∷ bs)))
step_cons l i b k bs e =
    subst (λ n. lexed l i 0 (b ∷ bs) ≡ joins (part_lexeme (placed l i) (b ∷ take n bs)) (lexed l (i + 1 + n) 0 (drop n bs))) (sym e)
    (ap (joins (part_lexeme (placed l i) (b ∷ take (extent b bs) bs))) (lexed_inside l (i + 1) (extent b bs) bs))

before_joins : (xs : List Lexeme) (x : Lexeme) (r : Result (List Lexeme) Fault) → before (xs ++ (x ∷ [])) r ≡ before xs (joins (Ok (Some x)) r)
before_joins xs x (Ok ys) = ap (λ l. Ok l) (append_assoc xs (x ∷ []) ys)
before_joins xs x (Err fault) = refl

-- One part of line l, from its byte i on: the first k + 1 of the bytes xs that are left.
module _ (l i k : ℕ) (xs part next : List ℕ) (some : 0 < length xs) (long : k ≡ extent (get_or xs 0 0) (between 1 (length xs) xs)) (front : part ≡ take (k + 1) xs) (back : next ≡ drop (k + 1) xs)
    (place : Place) (here : place ≡ placed l i) where
  part_step : lexed l i 0 xs ≡ joins (part_lexeme place part) (lexed l (i + 1 + k) 0 next)
  part_step =
      let P : List ℕ → Type 0 = λ ys. lexed l i 0 ys ≡ joins (part_lexeme (placed l i) (take (suc k) ys)) (lexed l (i + 1 + k) 0 (drop (suc k) ys)) in
      let s : P xs = subst P (sym (first_rest xs 0 some)) (step_cons l i (get_or xs 0 0) k (between 1 (length xs) xs) long) in
      rw (front, back, here, add-one k) s

  -- with the tokens ts read so far, the line reads as `whole`
  module _ (ts us : List Token) (whole : Result (List Lexeme) Fault) (inv : before (map lexeme ts) (lexed l i 0 xs) ≡ whole) where
    pub part_token : (t : Token) → us ≡ ts ++ (t ∷ []) → Ok (Some (lexeme t)) ≡ part_lexeme place part → before (map lexeme us) (lexed l (i + 1 + k) 0 next) ≡ whole
    part_token t u e =
        ap (λ ys. before (map lexeme ys) (lexed l (i + 1 + k) 0 next)) u
        ∙ ap (λ ys. before ys (lexed l (i + 1 + k) 0 next)) (map_push lexeme ts t)
        ∙ before_joins (map lexeme ts) (lexeme t) (lexed l (i + 1 + k) 0 next)
        ∙ ap (λ x. before (map lexeme ts) (joins x (lexed l (i + 1 + k) 0 next))) e
        ∙ ap (before (map lexeme ts)) (sym part_step)
        ∙ inv

    pub part_fault : (f : Fault) → Err f ≡ part_lexeme place part → whole ≡ Err f
    part_fault f e = sym inv ∙ ap (before (map lexeme ts)) part_step ∙ ap (λ x. before (map lexeme ts) (joins x (lexed l (i + 1 + k) 0 next))) (sym e)
