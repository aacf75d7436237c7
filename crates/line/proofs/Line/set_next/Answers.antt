-- The cell is written within the node table, and holds what the compare-and-set leaves.
use Rattle.std.proofs.Common.{◌≡◌, ◌<◌, length, not, sym, refl, ap, ◌∙◌, subst, length-set}
use Rattle.std.proofs.lemmas.Option.{slice_get_read}
use Rattle.std.proofs.lemmas.Bool.{lt-ltb}
use Rattle.line_model.specs.Nodes.{is_node, next_in, next_of, toward}
use Rattle.line_model.specs.Line.{next_set}
use Rattle.line_model.specs.Within.{in_next}
use Rattle.line_model.proofs.Bounds.{within_node}
use Rattle.line_model.proofs.Cells.{set_next, cell_within, is_none_eq}
use Rattle.line.specs.View.{view_of}
use Rattle.line.proofs.Line.set_next.Goals as goal

pub invariant_of-self : goal.invariant_of-self
invariant_of-self g c =
    let m = view_of c.self.inside in
    let x = c.index_mut.result.now in
    let n : length c.args.self.now.nodes ≡ length m.nodes = sym (ap (λ k. length k.nodes) c.self.view_is) in
    let r = ap next_in (slice_get_read m.nodes (length m.nodes) c.args.node x refl (subst (λ k. c.args.node < k) n c.requires.node_in_bounds) c.index_mut.ensures.value) in
    within_node m c.self.invariant c.args.node (toward c.compare_and_set.new.cell x)
    (cell_within (length m.nodes) c.args.new x.next c.compare_and_set.new.cell c.compare_and_set.result c.compare_and_set.ensures.left
    (lt-ltb c.args.new (length m.nodes) (subst (λ k. c.args.new < k) n c.requires.in_bounds)) (ap (in_next (length m.nodes)) (sym r) ∙ c.self.invariant.nexts c.args.node))

pub returns : goal.returns
returns g c =
    let m = view_of c.self.inside in
    let a = c.args.node in
    let b = c.args.new in
    let x = c.index_mut.result.now in
    let n : length c.args.self.now.nodes ≡ length m.nodes = sym (ap (λ k. length k.nodes) c.self.view_is) in
    let r = slice_get_read m.nodes (length m.nodes) a x refl (subst (λ k. a < k) n c.requires.node_in_bounds) c.index_mut.ensures.value in
    let t = c.compare_and_set.ensures.told ∙ is_none_eq x.next in
    let same = ap (λ k. next_of k.nodes a) c.self.view_is in
    record {
      told = t ∙ ap (λ o. not (is_node o)) (sym (ap next_in r) ∙ same);
      left = set_next m a b x c.compare_and_set.new.cell c.compare_and_set.result r t c.compare_and_set.ensures.left
          ∙ ap (λ k. next_set k a b (next_of k.nodes a)) c.self.view_is;
      size = length-set m.nodes a (toward c.compare_and_set.new.cell x) ∙ sym n;
    }
