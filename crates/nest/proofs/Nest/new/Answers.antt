-- The nest that is made is the one of the model, which is within its limits, sound and fresh.
use Rattle.std.proofs.Common.{◌≡◌, ℕ, ◌+◌, ◌≤◌, List, [], length, replicate, vec_items, vec_len, sym, ap, ◌∙◌, subst, arith}
use Rattle.boards.specs.Board.{Fresh}
use Rattle.nest_model.specs.declared.node.Node.{Node}
use Rattle.nest_model.specs.declared.work.Work.{Work}
use Rattle.nest_model.specs.declared.work.Work.TheVariants.{Free}
use Rattle.nest_model.specs.Model.{NestModel}
use Rattle.nest_model.specs.Making.{joined}
use Rattle.nest_model.specs.Meaning.{means}
use Rattle.nest_model.specs.Sound.{Sound}
use Rattle.nest_model.proofs.Made.{sizes, made_sound, made_fresh}
use Rattle.nest.specs.View.{IsTabled}
use Rattle.nest.proofs.Reading.{free_clone, tabled_made}
use Rattle.nest.proofs.Nest.new.Goals as goal

abbrev shape : (K : Type 0) → ℕ → List (Node K) → List (Work K) → NestModel K
shape K size ns ws = record { size = size; taken = 0; nodes = ns; works = ws }

pub overflow_add-size : goal.overflow_add-size
overflow_add-size g c =
    let z = sizes c.args.stations c.args.size (vec_len c.args.nodes) (vec_len c.args.works) c.requires in omega (arith, z.few_nodes)

pub join-requires : goal.join-requires
join-requires g c =
    let z = sizes c.args.stations c.args.size (vec_len c.args.nodes) (vec_len c.args.works) c.requires in
    omega (arith, z.long_nodes, c.truncate.ensures.len, c.truncate.new.self.ok.0)

pub returns-clause-is : goal.returns-clause-is
returns-clause-is g c =
    let z = sizes c.args.stations c.args.size (vec_len c.args.nodes) (vec_len c.args.works) c.requires in
    let cut : vec_len c.truncate-2.new.self ≡ c.args.stations = omega (arith, c.truncate-2.ensures.len, z.long_works) in
    let free : vec_items c.fill.new.self ≡ replicate c.args.stations Free =
    c.fill.ensures.items (free_clone _ (λ w h. h) (λ o a r h. h)) ∙ ap (λ (n : ℕ). replicate n Free) cut in
    let chain = c.join.ensures ∙ ap joined c.truncate.ensures.items in
    λ i. shape g.row.K.Denot c.args.size (chain i) (free i)

pub invariant_of-result : goal.invariant_of-result
invariant_of-result g c =
    let z = sizes c.args.stations c.args.size (vec_len c.args.nodes) (vec_len c.args.works) c.requires in
    subst IsTabled (sym (returns-clause-is g c)) (tabled_made c.args.stations c.args.size (vec_items c.args.nodes) (omega (arith, z.long_nodes, c.args.nodes.ok.0)) z)

pub returns-clause-sound : goal.returns-clause-sound
returns-clause-sound g c =
    let z = sizes c.args.stations c.args.size (vec_len c.args.nodes) (vec_len c.args.works) c.requires in
    let long : c.args.size + 2 ≤ length (vec_items c.args.nodes) = omega (arith, z.long_nodes, c.args.nodes.ok.0) in
    subst (Sound g.K.Key.before) (sym (returns-clause-is g c))
    (made_sound c.args.stations c.args.size (vec_items c.args.nodes) long g.K.Key.before z.some_stations z.few_stations)

pub returns-clause-fresh : goal.returns-clause-fresh
returns-clause-fresh g c =
    let z = sizes c.args.stations c.args.size (vec_len c.args.nodes) (vec_len c.args.works) c.requires in
    let long : c.args.size + 2 ≤ length (vec_items c.args.nodes) = omega (arith, z.long_nodes, c.args.nodes.ok.0) in
    subst (Fresh (means g.K.Key.before) []) (sym (returns-clause-is g c))
    (made_fresh c.args.stations c.args.size (vec_items c.args.nodes) long g.K.Key.before z.some_nodes)
