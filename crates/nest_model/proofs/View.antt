-- The view of a touch on the live registers is a move.
use Rattle.std.proofs.Common.{◌≡◌, ℕ, Bool, true, false, cond, not, ◌&&◌, List, Some, None, Option, refl, ap, ◌∙◌, subst, ap₂, arith}
use Rattle.plain_model.specs.declared.nest_op.NestOp.{NestOp}
use Rattle.plain_model.specs.declared.nest_op.NestOp.TheVariants.{Add, Drop, Find}
use Rattle.plain_model.specs.declared.nest_op.NestAnswer.{NestAnswer}
use Rattle.plain_model.specs.declared.nest_op.NestAnswer.TheVariants.{Added, Dropped}
use Rattle.plain_model.specs.Nest.{key_of}
use Rattle.nest_model.specs.declared.cell.Cell.{Cell}
use Rattle.nest_model.specs.declared.node.Node.{Node}
use Rattle.nest_model.specs.declared.phase.Phase.{Phase}
use Rattle.nest_model.specs.declared.phase.Phase.TheVariants.{N1, N2, N3, N4, N5, N6}
use Rattle.nest_model.specs.declared.registers.Registers.{Registers}
use Rattle.std.specs.declared.ops.ControlFlow.TheVariants.{Continue, Break}
use Rattle.nest_model.specs.Ends.{is_key}
use Rattle.nest_model.specs.Cells.{front, node, link, gone, cell_at, key_at, written}
use Rattle.nest_model.specs.Table.{Step, is_place, decided, walked, readings, touched}
use Rattle.nest_model.specs.Live.{Live, Start, live, Names, AllSet, still}
use Rattle.nest_model.proofs.Orders.{after_is}
use Rattle.nest_model.proofs.Move.{Move, goes, writes, says, does, decide, look, far, move}

-- a touch that leaves these registers, nodes and step carries out a move
pub data Carries {K : Type 0} (ns : List (Node K)) : Move → Registers → List (Node K) → Step → Type 0 where
  to_go : {ph : Phase} {r : Registers} {v : Live} → live ph r ≡ v → AllSet ph r → Carries ns (goes v) r ns (Continue ph)
  to_write : {x : ℕ} {c d : Cell} {ph : Phase} {r : Registers} {v : Live} → d ≡ c → live ph r ≡ v → AllSet ph r →
      Carries ns (writes x c v) r (written ns x d) (Continue ph)
  to_say : {a : NestAnswer} {r : Registers} → Carries ns (says a) r ns (Break a)
  to_do : {x : ℕ} {c d : Cell} {a : NestAnswer} {r : Registers} → d ≡ c → Carries ns (does x c a) r (written ns x d) (Break a)

-- an add's own node is set, and the station that links one has it
abbrev pub OwnSet : {K : Type 0} → NestOp K → Option ℕ → Type 0
OwnSet (Add k) own = Names own
OwnSet (Drop k) own = Unit {0}
OwnSet (Find k) own = Unit {0}

-- the cell that is read has a next node
abbrev pub Onward : (ℕ → Cell) → Phase → Registers → Type 0
Onward cell N1 r = ((cell front).mark ≡ false) × Names (cell front).next
Onward cell N2 r = Names (cell (node r.next)).next
Onward cell N3 r = (cell (node r.next)).mark ≡ true → Names (cell (node r.next)).next
Onward cell N4 r = Unit {0}
Onward cell N5 r = Unit {0}
Onward cell N6 r = Unit {0}

abbrev pub OwnAt : Option ℕ → Phase → Type 0
OwnAt own N1 = Unit {0}
OwnAt own N2 = Unit {0}
OwnAt own N3 = Unit {0}
OwnAt own N4 = Unit {0}
OwnAt own N5 = Names own
OwnAt own N6 = Unit {0}

abbrev registers : Option ℕ → Option ℕ → Option Bool → Option ℕ → Option ℕ → Registers
registers here next mark keep keptnext = record { here = here; next = next; mark = mark; keep = keep; keptnext = keptnext }

no_name : {A : Type 0} → Names None → A
no_name e = let z : ◌≡◌ {A = ℕ} 0 1 = cc in absurd (omega arith)

module _ {K : Type 0} (before : K → K → Bool) (ns : List (Node K)) (o : NestOp K) (own : Option ℕ) (mine : OwnSet o own) where
  -- the rule F
  decided_carries : (o : NestOp K) → OwnSet o own → (r : Registers) → Names r.here → Names r.next → (found : Bool) →
      Carries ns (decide before o (node own) found (node r.here) (node r.next)) r (decided before o own found r ns).0 (decided before o own found r ns).1
  decided_carries (Find k) mine r here next true = to_say
  decided_carries (Find k) mine r here next false = to_say
  decided_carries (Add k) mine r here next true = to_say
  decided_carries (Add k) mine r here next false = to_write (ap link next) refl (here, next)
  decided_carries (Drop k) mine r here next true = to_go refl (here, next)
  decided_carries (Drop k) mine r here next false = to_say

  -- the rule W at an unmarked node, and at a marked one
  plain_carries : (keep keptnext : ℕ) (here next : Option ℕ) → next ≡ (cell_at ns (node here)).next → Names here → Names next → (found : Bool) →
      Carries ns (look before (cell_at ns) (key_at ns) o (node own) keep keptnext (node here) false found)
      (registers here next (Some false) here next)
      (walked before o own found false (registers here next (Some false) here next) ns).0
      (walked before o own found false (registers here next (Some false) here next) ns).1
  plain_carries keep keptnext here next e h n true =
      rw (← e) (decided_carries o mine (registers here next (Some false) here next) h n (is_key before (key_of o) (key_at ns (node here))))
  plain_carries keep keptnext here next e h n false = rw (← e) (to_go {ph = N2} refl (h, n, n))

  marked_carries : (keep keptnext here next : Option ℕ) → next ≡ (cell_at ns (node here)).next → Names keep → Names keptnext → Names next → (found : Bool) →
      Carries ns (look before (cell_at ns) (key_at ns) o (node own) (node keep) (node keptnext) (node here) true found)
      (registers here next (Some true) keep keptnext)
      (walked before o own found true (registers here next (Some true) keep keptnext) ns).0
      (walked before o own found true (registers here next (Some true) keep keptnext) ns).1
  marked_carries keep keptnext here next e k l n true = rw (← e) (to_go {ph = N3} refl (k, l, n))
  marked_carries keep keptnext here next e k l n false = rw (← e) (to_go {ph = N2} refl (k, l, n))

  -- the table's test of the key's place is the move's
  place_is : (r : Registers) → r.next ≡ (cell_at ns (node r.here)).next →
      is_place before ns r (key_of o) ≡ far before (cell_at ns) (key_at ns) o (node r.here)
  place_is r e =
      ap₂ (λ (a b : Bool). not a && b) (after_is before (key_of o) (key_at ns (node r.here)))
      (after_is before (key_of o) (key_at ns (node r.next)) ∙ rw e)

  plain_at : (keep keptnext : ℕ) (here next : Option ℕ) → next ≡ (cell_at ns (node here)).next → Names here → Names next →
      Carries ns (look before (cell_at ns) (key_at ns) o (node own) keep keptnext (node here) false (far before (cell_at ns) (key_at ns) o (node here)))
      (registers here next (Some false) here next)
      (walked before o own (is_place before ns (registers here next (Some false) here next) (key_of o)) false (registers here next (Some false) here next) ns).0
      (walked before o own (is_place before ns (registers here next (Some false) here next) (key_of o)) false (registers here next (Some false) here next) ns).1
  plain_at keep keptnext here next e h n =
      let r = registers here next (Some false) here next in let f = is_place before ns r (key_of o) in
      subst
      (λ (g : Bool). Carries ns (look before (cell_at ns) (key_at ns) o (node own) keep keptnext (node here) false g) r (walked before o own f false r ns).0 (walked before o own f false r ns).1)
      (place_is r e) (plain_carries keep keptnext here next e h n f)

  marked_at : (keep keptnext here next : Option ℕ) → next ≡ (cell_at ns (node here)).next → Names keep → Names keptnext → Names next →
      Carries ns (look before (cell_at ns) (key_at ns) o (node own) (node keep) (node keptnext) (node here) true (far before (cell_at ns) (key_at ns) o (node here)))
      (registers here next (Some true) keep keptnext)
      (walked before o own (is_place before ns (registers here next (Some true) keep keptnext) (key_of o)) true (registers here next (Some true) keep keptnext) ns).0
      (walked before o own (is_place before ns (registers here next (Some true) keep keptnext) (key_of o)) true (registers here next (Some true) keep keptnext) ns).1
  marked_at keep keptnext here next e k l n =
      let r = registers here next (Some true) keep keptnext in let f = is_place before ns r (key_of o) in
      subst
      (λ (g : Bool). Carries ns (look before (cell_at ns) (key_at ns) o (node own) (node keep) (node keptnext) (node here) true g) r (walked before o own f true r ns).0 (walked before o own f true r ns).1)
      (place_is r e) (marked_carries keep keptnext here next e k l n f)

  -- N2, by the mark of the cell that is read
  walk_carries : (r : Registers) → AllSet N2 r → Names (cell_at ns (node r.next)).next → (b : Bool) → (cell_at ns (node r.next)).mark ≡ b →
      Carries ns (move before (cell_at ns) (key_at ns) o (node own) (live N2 r)) (readings N2 r (cell_at ns)) (touched before o own N2 r ns).0 (touched before o own N2 r ns).1
  walk_carries r set n true e = rw e (marked_at r.keep r.keptnext r.next (cell_at ns (node r.next)).next refl set.0 set.1 n)
  walk_carries r set n false e = rw e (plain_at (node r.keep) (node r.keptnext) r.next (cell_at ns (node r.next)).next refl set.2 n)

  skip_carries : (r : Registers) → AllSet N3 r → (b : Bool) → (cell_at ns (node r.next)).mark ≡ b → (b ≡ true → Names (cell_at ns (node r.next)).next) →
      Carries ns (move before (cell_at ns) (key_at ns) o (node own) (live N3 r)) (readings N3 r (cell_at ns)) (touched before o own N3 r ns).0 (touched before o own N3 r ns).1
  skip_carries r set true e n = rw e (to_go {ph = N3} refl (set.0, set.1, n refl))
  skip_carries r set false e n = rw e (to_go {ph = N4} refl (set.0, set.1, set.2))

  -- N4 to N6, whose compare-and-set finds the cell as it was or not
  unlink_carries : (here next : Option ℕ) (mark : Option Bool) (keep keptnext : Option ℕ) → Names keep → Names keptnext → Names here →
      Carries ns (move before (cell_at ns) (key_at ns) o (node own) (live N4 (registers here next mark keep keptnext))) (registers here next mark keep keptnext)
      (touched before o own N4 (registers here next mark keep keptnext) ns).0 (touched before o own N4 (registers here next mark keep keptnext) ns).1
  unlink_carries None next mark keep keptnext k l h = no_name h
  unlink_carries (Some here) next mark None keptnext k l h = no_name k
  unlink_carries (Some here) next mark (Some keep) None k l h = no_name l
  unlink_carries (Some here) next mark (Some keep) (Some keptnext) k l h = go (still (cell_at ns keep) keptnext)
    where
      go : (b : Bool) → Carries ns (cond b (writes keep (link (Some here)) Start) (goes Start)) (registers (Some here) next mark (Some keep) (Some keptnext)) (cond b (written ns keep (link (Some here))) ns) (Continue N1)
      go true = to_write {ph = N1} refl refl tt
      go false = to_go {ph = N1} refl tt

  insert_carries : (here next : Option ℕ) (mark : Option Bool) (keep keptnext : Option ℕ) → Names here → Names next → Names own →
      Carries ns (move before (cell_at ns) (key_at ns) o (node own) (live N5 (registers here next mark keep keptnext))) (registers here next mark keep keptnext)
      (touched before o own N5 (registers here next mark keep keptnext) ns).0 (touched before o own N5 (registers here next mark keep keptnext) ns).1
  insert_carries None next mark keep keptnext h n w = no_name h
  insert_carries (Some here) None mark keep keptnext h n w = no_name n
  insert_carries (Some here) (Some next) mark keep keptnext h n w = go (still (cell_at ns here) next)
    where
      go : (b : Bool) → Carries ns (cond b (does here (link (Some (node own))) Added) (goes Start)) (registers (Some here) (Some next) mark keep keptnext) (cond b (written ns here (link own)) ns) (cond b (Break Added) (Continue N1))
      go true = to_do (ap link w)
      go false = to_go {ph = N1} refl tt

  strike_carries : (here next : Option ℕ) (mark : Option Bool) (keep keptnext : Option ℕ) → Names here → Names next →
      Carries ns (move before (cell_at ns) (key_at ns) o (node own) (live N6 (registers here next mark keep keptnext))) (registers here next mark keep keptnext)
      (touched before o own N6 (registers here next mark keep keptnext) ns).0 (touched before o own N6 (registers here next mark keep keptnext) ns).1
  strike_carries None next mark keep keptnext h n = no_name h
  strike_carries (Some here) None mark keep keptnext h n = no_name n
  strike_carries (Some here) (Some next) mark keep keptnext h n = go (still (cell_at ns here) next)
    where
      go : (b : Bool) → Carries ns (cond b (does here (gone (Some next)) Dropped) (goes Start)) (registers (Some here) (Some next) mark keep keptnext) (cond b (written ns here (gone (Some next))) ns) (cond b (Break Dropped) (Continue N1))
      go true = to_do refl
      go false = to_go {ph = N1} refl tt

  pub carried : (ph : Phase) (r : Registers) → AllSet ph r → Onward (cell_at ns) ph r → OwnAt own ph →
      Carries ns (move before (cell_at ns) (key_at ns) o (node own) (live ph r)) (readings ph r (cell_at ns)) (touched before o own ph r ns).0 (touched before o own ph r ns).1
  carried N1 r set onward w = rw onward.0 (plain_at front front (Some front) (cell_at ns front).next refl refl onward.1)
  carried N2 r set onward w = walk_carries r set onward _ refl
  carried N3 r set onward w = skip_carries r set _ refl onward
  carried N4 r set onward w = unlink_carries r.here r.next r.mark r.keep r.keptnext set.0 set.1 set.2
  carried N5 r set onward w = insert_carries r.here r.next r.mark r.keep r.keptnext set.0 set.1 w
  carried N6 r set onward w = strike_carries r.here r.next r.mark r.keep r.keptnext set.0 set.1
