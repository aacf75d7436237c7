-- The nest's invariant.
use Rattle.std.specs.Prelude.{◌≡◌, ℕ, ◌+◌, ◌<◌, ◌≤◌, Bool, true, false, ◌≢◌, length, Some, None, Option}
use Rattle.plain_model.specs.declared.nest_op.NestOp.{NestOp}
use Rattle.plain_model.specs.declared.nest_op.NestOp.TheVariants.{Add, Drop, Find}
use Rattle.plain_model.specs.Nest.{key_of}
use Rattle.nest_model.specs.declared.cell.Cell.{Cell}
use Rattle.nest_model.specs.declared.work.Work.{Work}
use Rattle.nest_model.specs.declared.work.Work.TheVariants.{Free, Waiting, Ready}
use Rattle.nest_model.specs.Ends.{Extended, Low, Mid, High, Lt, Le}
use Rattle.nest_model.specs.Cells.{front, back, node, link, cell_at, key_at}
use Rattle.nest_model.specs.Model.{NestModel, work_at}
use Rattle.nest_model.specs.Chain.{after, Reach, Leads}
use Rattle.nest_model.specs.Live.{Live, Start, Walk, Skip, Unlink, Insert, Strike, live, Names, AllSet}

-- the node that a waiting add took
abbrev pub own_of : {K : Type 0} → Work K → Option ℕ
own_of Free = None
own_of (Waiting w) = w.own
own_of (Ready o a r) = None

module _ {K : Type 0} (before : K → K → Bool) where
  -- `linked` tells the nodes that were reached from the front at some time. They are among the first `size`; each but
  -- the back has a next node, linked too, with a later key; and those that are not marked are still reached.
  pub record Chained (cell : ℕ → Cell) (key : ℕ → Extended K) (size : ℕ) (linked : ℕ → Bool) : Type 0 where
    pub low_key : key front ≡ Low
    pub high_key : key back ≡ High
    pub front_in : linked front ≡ true
    pub back_in : linked back ≡ true
    pub front_plain : (cell front).mark ≡ false
    pub back_plain : (cell back).mark ≡ false
    pub fits : (n : ℕ) → linked n ≡ true → n < size
    pub named : (n : ℕ) → linked n ≡ true → n ≢ back → Names (cell n).next
    pub onward : (n : ℕ) → linked n ≡ true → n ≢ back → linked (after cell n) ≡ true
    pub rises : (n : ℕ) → linked n ≡ true → n ≢ back → Lt before (key n) (key (after cell n))
    pub chained : (n : ℕ) → linked n ≡ true → (cell n).mark ≡ false → Reach cell n front

  -- What a station knows that kept a node not after its key: keptnext leads to `next` through marked nodes, whose cells
  -- never change any more.
  pub record Held (cell : ℕ → Cell) (key : ℕ → Extended K) (linked : ℕ → Bool) (k : K) (keep keptnext next : ℕ) : Type 0 where
    pub keep_in : linked keep ≡ true
    pub kept_in : linked keptnext ≡ true
    pub leads : Leads cell next keptnext
    pub not_after : Le before (key keep) (Mid k)
    pub rise : Lt before (key keep) (key keptnext)

  -- an add that is about to link its node, and a drop that is about to mark one
  abbrev pub Inserts : (ℕ → Cell) → (ℕ → Extended K) → (ℕ → Bool) → NestOp K → ℕ → ℕ → ℕ → Type 0
  Inserts cell key linked (Add k) own here next =
      (linked here ≡ true) × Lt before (key here) (Mid k) × Lt before (Mid k) (key next) × (cell own ≡ link (Some next)) × (linked next ≡ true)
  Inserts cell key linked (Drop k) own here next = ⊥
  Inserts cell key linked (Find k) own here next = ⊥

  abbrev pub Strikes : (ℕ → Extended K) → (ℕ → Bool) → NestOp K → ℕ → ℕ → Type 0
  Strikes key linked (Add k) here next = ⊥
  Strikes key linked (Drop k) here next = (linked here ≡ true) × (key here ≡ Mid k) × Lt before (Mid k) (key next) × (linked next ≡ true)
  Strikes key linked (Find k) here next = ⊥

  -- where a station stands
  abbrev pub Stands : (ℕ → Cell) → (ℕ → Extended K) → (ℕ → Bool) → NestOp K → ℕ → Live → Type 0
  Stands cell key linked o own Start = Unit {0}
  Stands cell key linked o own (Walk keep keptnext next) = Held cell key linked (key_of o) keep keptnext next × Le before (key next) (Mid (key_of o))
  Stands cell key linked o own (Skip keep keptnext next) = Held cell key linked (key_of o) keep keptnext next × Lt before (Mid (key_of o)) (key next)
  Stands cell key linked o own (Unlink keep keptnext here) = Held cell key linked (key_of o) keep keptnext here × Lt before (Mid (key_of o)) (key here)
  Stands cell key linked o own (Insert here next) = Inserts cell key linked o own here next
  Stands cell key linked o own (Strike here next) = Strikes key linked o here next

  -- the node of an add that waits is not linked
  abbrev pub Owns : (ℕ → Extended K) → ℕ → (ℕ → Bool) → NestOp K → Option ℕ → Type 0
  Owns key size linked (Add k) own = (linked (node own) ≡ false) × (node own < size) × (key (node own) ≡ Mid k) × Names own
  Owns key size linked (Drop k) own = own ≡ None
  Owns key size linked (Find k) own = own ≡ None

  abbrev pub Works : (ℕ → Cell) → (ℕ → Extended K) → ℕ → (ℕ → Bool) → Work K → Type 0
  Works cell key size linked Free = Unit {0}
  Works cell key size linked (Waiting w) =
      Owns key size linked w.op w.own × Stands cell key linked w.op (node w.own) (live w.phase w.registers) × AllSet w.phase w.registers
  Works cell key size linked (Ready o a r) = Unit {0}

  pub record Sound (m : NestModel K) : Type 0 where
    pub some_stations : 1 ≤ length m.works
    pub few_stations : length m.works ≤ 16
    pub enough : m.taken ≤ m.size
    pub tabled : length m.nodes ≡ m.size + 2
    pub linked : ℕ → Bool
    pub chain : Chained (cell_at m.nodes) (key_at m.nodes) (m.taken + 2) linked
    pub each : (p : ℕ) → Works (cell_at m.nodes) (key_at m.nodes) (m.taken + 2) linked (work_at m.works p)
    -- no two adds took the same node
    pub apart : (p q : ℕ) → p ≢ q → (n : ℕ) → own_of (work_at m.works p) ≡ Some n → own_of (work_at m.works q) ≢ Some n
