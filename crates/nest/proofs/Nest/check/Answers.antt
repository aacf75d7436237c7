use Rattle.std.proofs.Common.{◌≡◌, true, false, ◌&&◌, leb, length, arith}
use Rattle.std.proofs.lemmas.Bool.Decides.{nat_tests}
use Rattle.nest_model.specs.Making.{is_long}
use Rattle.nest_model.proofs.Made.{size_refused, table_refused, all_accepted}
use Rattle.nest.proofs.Nest.check.Goals as goal

pub returns-then-not-contains-2 : goal.returns-then-not-contains-2
returns-then-not-contains-2 g c =
    let s : (leb 1 c.args.stations && leb c.args.stations 16) ≡ true = grind (arith, nat_tests) in
    let n : (leb 1 c.args.size && leb c.args.size 512) ≡ false = grind (arith, nat_tests) in
    size_refused c.args.stations c.args.size (length c.args.nodes.now) (length c.args.works.now) s n

pub returns-then-nodes-size : goal.returns-then-nodes-size
returns-then-nodes-size g c =
    let s : (leb 1 c.args.stations && leb c.args.stations 16) ≡ true = grind (arith, nat_tests) in
    let n : (leb 1 c.args.size && leb c.args.size 512) ≡ true = grind (arith, nat_tests) in
    let t : is_long c.args.stations c.args.size (length c.args.nodes.now) (length c.args.works.now) ≡ false = grind (arith, nat_tests) in
    table_refused c.args.stations c.args.size (length c.args.nodes.now) (length c.args.works.now) s n t

pub returns : goal.returns
returns g c =
    let s : (leb 1 c.args.stations && leb c.args.stations 16) ≡ true = grind (arith, nat_tests) in
    let n : (leb 1 c.args.size && leb c.args.size 512) ≡ true = grind (arith, nat_tests) in
    let t : is_long c.args.stations c.args.size (length c.args.nodes.now) (length c.args.works.now) ≡ true = grind (arith, nat_tests) in
    all_accepted c.args.stations c.args.size (length c.args.nodes.now) (length c.args.works.now) s n t
