-- What the floors of the two trades differ in.
use Rattle.std.specs.Prelude.{ℕ, Bool, List, Result}
use Rattle.lex.specs.Runs.{Lexeme}
use Rattle.keys.specs.declared.refusal.Refusal.{Refusal}
use Rattle.forms_model.specs.Reading.{Parsed}

-- The order of keys, how keys and elements print and are read, and a key and an element that fill unused nodes.
pub record Rules (K E : Type 0) : Type 0 where
  pub before : K → K → Bool
  pub key_text : K → List ℕ
  pub element_text : E → List ℕ
  pub key_at : List Lexeme → Parsed (Result K Refusal)
  pub element_at : List Lexeme → Parsed (Result E Refusal)
  pub blank_key : K
  pub blank_element : E

-- the same rules, with this order and these texts
abbrev pub rules_with : {K E : Type 0} → (K → K → Bool) → (K → List ℕ) → (E → List ℕ) → Rules K E → Rules K E
rules_with before key_text element_text rules = record {
  before = before;
  key_text = key_text;
  element_text = element_text;
  key_at = rules.key_at;
  element_at = rules.element_at;
  blank_key = rules.blank_key;
  blank_element = rules.blank_element;
}
