-- Size labels: which are made, how they are ordered and how they print.
use Rattle.std.specs.Prelude.{ℕ, Bool, true, false, List, ◌++◌, Ok, Err, codes, decimal, Result, nat_lt}
use Rattle.keys.specs.declared.refusal.Refusal.{Refusal}
use Rattle.keys.specs.declared.refusal.Refusal.TheVariants.{OutOfRange}
use Rattle.keys.specs.declared.size_label.LetterSize.{LetterSize}
use Rattle.keys.specs.declared.size_label.LetterSize.TheVariants.{Xs, S, M, L, Xl, Xxl}
use Rattle.keys.specs.declared.size_label.WaistSize.{WaistSize}
use Rattle.keys.specs.declared.size_label.SizeLabel.{SizeLabel}
use Rattle.keys.specs.declared.size_label.SizeLabel.TheVariants.{Letter, Waist}
use Rattle.keys.specs.Order.{lexicographic}
use Rattle.keys.specs.Ranges.{wearable, if_so}

-- exactly the measures in range are made
abbrev pub waist_size : ℕ → ℕ → Result WaistSize Refusal
waist_size waist leg = if_so (wearable waist leg) (λ p. Ok (record { waist = waist; leg = leg; fits = p })) (Err OutOfRange)

-- the place of a letter size among the letter sizes
abbrev pub rank : LetterSize → ℕ
rank Xs = 0
rank S = 1
rank M = 2
rank L = 3
rank Xl = 4
rank Xxl = 5

-- letter sizes before all waists; waists by waist and then leg
abbrev pub before : SizeLabel → SizeLabel → Bool
before (Letter a) (Letter b) = nat_lt (rank a) (rank b)
before (Letter a) (Waist v) = true
before (Waist u) (Letter b) = false
before (Waist u) (Waist v) = lexicographic u.waist u.leg v.waist v.leg

abbrev pub letter_text : LetterSize → List ℕ
letter_text Xs = codes "xs"
letter_text S = codes "s"
letter_text M = codes "m"
letter_text L = codes "l"
letter_text Xl = codes "xl"
letter_text Xxl = codes "xxl"

abbrev pub size_text : SizeLabel → List ℕ
size_text (Letter l) = codes "(letter " ++ (letter_text l ++ codes ")")
size_text (Waist w) = codes "(w " ++ (decimal w.waist ++ (codes " " ++ (decimal w.leg ++ codes ")")))
