-- The tables cut to size are those of a fresh line.
use Rattle.std.proofs.Common.{◌≡◌, ℕ, ◌+◌, ◌≤◌, List, [], length, take, replicate, vec_items, vec_len, sym, ap, ◌∙◌, subst, ap₂, rules}
use Rattle.std.proofs.lemmas.List.{take-replicate}
use Rattle.boards.specs.Board.{Fresh}
use Rattle.line_model.specs.declared.node.Node.{Node}
use Rattle.line_model.specs.declared.seat.Seat.{Seat}
use Rattle.line_model.specs.declared.seat.Seat.TheVariants.{Free}
use Rattle.line_model.specs.Within.{IsWithin}
use Rattle.line_model.specs.Line.{LineModel}
use Rattle.line_model.specs.Meaning.{means}
use Rattle.line_model.specs.Fresh.{checked, fine, front, fresh, unlinked}
use Rattle.line_model.specs.Sound.{Sound}
use Rattle.line_model.proofs.Fresh.{Sizes, sizes, fresh_within, fresh_sound, fresh_fresh}
use Rattle.line.proofs.Line.over.Goals as goal

abbrev make : (E : Type 0) → List (Node E) → List (Seat E) → LineModel E
make E ns ss = record { nodes = ns; taken = 1; head = 0; tail = 0; seats = ss }

record Cut {E : Type 0} (s m : ℕ) (table : List (Node E)) (k : ℕ) (line : LineModel E) : Type 0 where
  sizes : Sizes s m (length table) k
  made : line ≡ front s m table
  same : line ≡ fresh s m table

cut : {E : Type 0} (s m n k : ℕ) (table ns : List (Node E)) (seats ss : List (Seat E)) → checked s m n k ≡ fine → n ≡ length table →
    ns ≡ take (m + 1) table → table ≡ unlinked table → ss ≡ take s seats → seats ≡ replicate k Free → Cut s m table k (make E ns ss)
cut {E = E} s m n k table ns seats ss h l c u d f =
    let z = sizes s m n k h in
    let free = d ∙ ap (take s) f ∙ take-replicate s k Free z.long_seats in
    let made = ap₂ (make E) c free in
    record { sizes = subst (λ (i : ℕ). Sizes s m i k) l z; made = made; same = made ∙ ap (front s m) u }

pub overflow_add-nodes : goal.overflow_add-nodes
overflow_add-nodes g c =
    let z = sizes c.args.stations c.args.nodes (vec_len c.args.node_table) (vec_len c.args.station_table) c.requires.sizes in
    let h : c.args.nodes ≤ 512 = z.few_nodes in search rules

pub invariant_of-result : goal.invariant_of-result
invariant_of-result g c =
    let nt = c.args.node_table in let st = c.args.station_table in let s = c.args.stations in let m = c.args.nodes in
    let k : vec_len nt ≡ length (vec_items nt) = search rules in
    let d = cut s m (vec_len nt) (vec_len st) (vec_items nt) _ (vec_items st) _ c.requires.sizes k c.truncate.ensures.items c.requires.links c.truncate-2.ensures.items c.requires.free in
    subst IsWithin (sym d.same) (fresh_within s m (vec_items nt) (vec_len st) d.sizes)

pub returns : goal.returns
returns g c =
    let nt = c.args.node_table in let st = c.args.station_table in let s = c.args.stations in let m = c.args.nodes in
    let k : vec_len nt ≡ length (vec_items nt) = search rules in
    let d = cut s m (vec_len nt) (vec_len st) (vec_items nt) _ (vec_items st) _ c.requires.sizes k c.truncate.ensures.items c.requires.links c.truncate-2.ensures.items c.requires.free in
    record {
      made = d.made;
      sound = subst Sound (sym d.same) (fresh_sound s m (vec_items nt) (vec_len st) d.sizes);
      unused = subst (Fresh means []) (sym d.same) (fresh_fresh s m (vec_items nt) (vec_len st) d.sizes);
    }
