-- What a replay did.
use Rattle.std.specs.Prelude.{◌≡◌, ℕ, ◌≤◌, List, length, take, Ok, Err, Result}
use Rattle.keys.specs.declared.refusal.Refusal.{Refusal}
use Rattle.keys.specs.declared.refusal.Refusal.TheVariants.{NoMemory}
use Rattle.plain_model.specs.Machine.{Machine, replay}

-- The machine went through all operations and gave their answers, or memory was lacking after some first part of them.
abbrev pub Replayed : {State Op Answer Item Told : Type 0} → Machine State Op Answer Item → (Told → List Answer) → List Op → State → State → Result Told Refusal → Type 0
Replayed m answers ops was now (Ok told) = (now, answers told) ≡ replay m ops was
Replayed m answers ops was now (Err e) = (e ≡ NoMemory) × ((n : ℕ) × (n ≤ length ops) × (now ≡ (replay m (take n ops) was).0))
