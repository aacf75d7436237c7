-- How replies print, by how answers do.
use Rattle.std.specs.Prelude.{ℕ, List, [], ◌∷◌, ◌++◌, Some, None, codes, decimal, Option}
use Rattle.keys.specs.Refusals.{number}
use Rattle.keys.specs.declared.refusal.Refusal.{Refusal}
use Rattle.boards.specs.declared.outcome.Outcome.{Outcome}
use Rattle.boards.specs.declared.outcome.Outcome.TheVariants as told
use Rattle.script_model.specs.declared.reply.Reply.{Reply}
use Rattle.script_model.specs.declared.reply.Reply.TheVariants.{Opened, Started, Touched, Collected, Closed, Refused}

-- a text and the newline after it
abbrev pub line_of : List ℕ → List ℕ
line_of text = text ++ (10 ∷ [])

-- a floor never tells idle, since it sends such a touch back
abbrev pub outcome_text : Outcome → List ℕ
outcome_text told.Idle = codes "(idle)"
outcome_text told.Going = codes "(going)"
outcome_text told.Counted = codes "(counted)"
outcome_text told.CountedReady = codes "(counted ready)"
outcome_text told.Ready = codes "(ready)"

-- want of memory, which has no number, is never a reply
abbrev pub numbered_text : Option ℕ → List ℕ
numbered_text None = codes "(refused)"
numbered_text (Some n) = codes "(refused " ++ (decimal n ++ codes ")")

abbrev pub refusal_text : Refusal → List ℕ
refusal_text reason = numbered_text (number reason)

abbrev pub reply_text : {Answer : Type 0} → (Answer → List ℕ) → Reply Answer → List ℕ
reply_text answer Opened = codes "(opened)"
reply_text answer Started = codes "(started)"
reply_text answer (Touched outcome) = outcome_text outcome
reply_text answer (Collected a) = answer a
reply_text answer Closed = codes "(closed)"
reply_text answer (Refused reason) = refusal_text reason
