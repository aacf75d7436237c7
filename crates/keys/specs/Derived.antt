-- The derived orders of keys compare as `before` does.
use Rattle.std.specs.Prelude.{◌≡◌, refl}
use Rattle.std.proofs.Common.{rules}
use Rattle.keys.specs.Order.{compared}
use Rattle.keys.specs.declared.size_label.LetterSize.{LetterSize}
use Rattle.keys.specs.declared.size_label.LetterSize.TheVariants.{Xs, S, M, L, Xl, Xxl}
use Rattle.keys.specs.declared.size_label.SizeLabel.{SizeLabel}
use Rattle.keys.specs.declared.size_label.SizeLabel.TheVariants.{Letter, Waist}
use Rattle.keys.specs.contracts.size_label.SizeLabelOrd.TheImpl as derived
use Rattle.keys.specs.Sizes as sizes

letters_compared : (a b : LetterSize) → derived.ghosts.cmp (Letter a) (Letter b) ≡ compared sizes.before (Letter a) (Letter b)
letters_compared Xs b = search rules
letters_compared S b = search rules
letters_compared M b = search rules
letters_compared L b = search rules
letters_compared Xl b = search rules
letters_compared Xxl b = search rules

pub label_compared : (x y : SizeLabel) → derived.ghosts.cmp x y ≡ compared sizes.before x y
label_compared (Letter a) (Letter b) = letters_compared a b
label_compared (Letter a) (Waist v) = refl
label_compared (Waist u) (Letter b) = refl
label_compared (Waist u) (Waist v) = search rules
