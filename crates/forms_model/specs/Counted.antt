-- How an element that is a key with a count is read.
use Rattle.std.specs.Prelude.{ℕ, List, Some, Result}
use Rattle.lex.specs.Runs.{Lexeme}
use Rattle.keys.specs.declared.refusal.Refusal.{Refusal}
use Rattle.forms_model.specs.Reading.{Parsed, and_then, open_at, close_at, number_at, keyword_at, if_made}

-- (NAME K COUNT), as the key and the count
abbrev pub counted_at : {A : Type 0} → List ℕ → (List Lexeme → Parsed A) → List Lexeme → Parsed (A × ℕ)
counted_at name key_at xs = and_then (open_at xs) (λ _ xs. and_then (keyword_at name xs) (λ _ xs. and_then (key_at xs) (λ key xs. and_then (number_at xs) (λ count xs. and_then (close_at xs) (λ _ xs. Some ((key, count), xs))))))

-- what is made of a key and a count
abbrev pub counted_of : {K E : Type 0} → (K → ℕ → Result E Refusal) → Result K Refusal → ℕ → Result E Refusal
counted_of made key count = if_made (λ k. made k count) key

-- (NAME K COUNT), as the element that is made of the key and the count
abbrev pub made_at : {K E : Type 0} → List ℕ → (List Lexeme → Parsed (Result K Refusal)) → (K → ℕ → Result E Refusal) → List Lexeme → Parsed (Result E Refusal)
made_at name key_at made xs = and_then (counted_at name key_at xs) (λ counted xs. Some (counted_of made counted.0 counted.1, xs))
