-- Numbers in range and tables of the lengths that are needed pass the check of a line.
use Rattle.std.proofs.Common.{◌≡◌, ℕ, ◌+◌, ◌≤◌, ap, ◌∙◌, arith}
use Rattle.std.proofs.lemmas.Bool.Decides.{nat_tests}
use Rattle.line_model.specs.Fresh.{checked, fine, fresh}
use Rattle.shop.proofs.making.make_line.Goals as goal

line_fine : (s n a b : ℕ) → 1 ≤ s → s ≤ 16 → 1 ≤ n → n ≤ 512 → a ≡ n + 1 → b ≡ s → checked s n a b ≡ fine
line_fine s n a b h i j k e f = grind (arith, nat_tests)

pub new-requires : goal.new-requires
new-requires g c =
    line_fine _ _ _ _ c.requires.0 c.requires.1 c.requires.2 c.requires.3 c.in_ok-node_table.ensures.len c.in_ok-station_table.ensures.len

pub returns-clause-is : goal.returns-clause-is
returns-clause-is g c =
    c.new.ensures.made ∙ ap (λ ns. fresh c.args.stations c.args.nodes ns) c.in_ok-node_table.ensures.items
