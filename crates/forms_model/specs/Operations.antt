-- How an operation is read, by the rules of its trade.
use Rattle.std.specs.Prelude.{ℕ, cond, List, Some, None, Ok, codes, Option, Result}
use Rattle.std.specs.Str.{bytes_eq}
use Rattle.lex.specs.Runs.{Lexeme}
use Rattle.keys.specs.declared.refusal.Refusal.{Refusal}
use Rattle.plain_model.specs.declared.nest_op.NestOp.{NestOp}
use Rattle.plain_model.specs.declared.nest_op.NestOp.TheVariants as nest
use Rattle.plain_model.specs.declared.line_op.LineOp.{LineOp}
use Rattle.plain_model.specs.declared.line_op.LineOp.TheVariants as line
use Rattle.plain_model.specs.declared.side.Side.{Side}
use Rattle.plain_model.specs.declared.side.Side.TheVariants.{First, Second}
use Rattle.forms_model.specs.declared.verb.NestVerb.{NestVerb}
use Rattle.forms_model.specs.declared.verb.NestVerb.TheVariants.{Add, Drop, Find}
use Rattle.forms_model.specs.declared.verb.Verb.{Verb}
use Rattle.forms_model.specs.declared.verb.Verb.TheVariants.{Nest, Put, Take}
use Rattle.forms_model.specs.Reading.{Parsed, and_then, or_none, open_at, close_at, word_at, if_made}
use Rattle.forms_model.specs.Rules.{Rules}

-- an operation of a floor: of its nest or of its line
abbrev pub Operation : Type 0 → Type 0 → Type 0
Operation K E = Side (NestOp K) (LineOp E)

abbrev pub verb_of : List ℕ → Option Verb
verb_of name =
    cond (bytes_eq name (codes "add")) (Some (Nest Add))
    (cond (bytes_eq name (codes "drop")) (Some (Nest Drop))
    (cond (bytes_eq name (codes "find")) (Some (Nest Find))
    (cond (bytes_eq name (codes "put")) (Some Put)
    (cond (bytes_eq name (codes "take")) (Some Take) None))))

abbrev pub asked : {K : Type 0} → NestVerb → K → NestOp K
asked Add key = nest.Add key
asked Drop key = nest.Drop key
asked Find key = nest.Find key

module _ {K E : Type 0} (rules : Rules K E) where
  -- what follows the verb
  abbrev pub operation_body : Verb → List Lexeme → Parsed (Result (Operation K E) Refusal)
  operation_body (Nest verb) xs = and_then (rules.key_at xs) (λ key xs. Some (if_made (λ k. Ok (First (asked verb k))) key, xs))
  operation_body Put xs = and_then (rules.element_at xs) (λ element xs. Some (if_made (λ e. Ok (Second (line.Put e))) element, xs))
  operation_body Take xs = Some (Ok (Second line.Take), xs)

  -- (add K), (drop K), (find K), (put E) or (take)
  abbrev pub operation_at : List Lexeme → Parsed (Result (Operation K E) Refusal)
  operation_at xs = and_then (open_at xs) (λ _ xs. and_then (word_at xs) (λ name xs. and_then (or_none (verb_of name) xs) (λ verb xs. and_then (operation_body verb xs) (λ operation xs. and_then (close_at xs) (λ _ xs. Some (operation, xs))))))
