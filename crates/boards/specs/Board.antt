-- What a board is: the functions that its calls are, and what its model means.
use Rattle.std.specs.Prelude.{◌≡◌, ℕ, zero, suc, Bool, true, false, cond, ◌&&◌, List, ◌++◌, length, drop, Option, nat_le}
use Rattle.boards.specs.declared.outcome.Outcome.{Outcome}
use Rattle.boards.specs.declared.station.Station.{Station}
use Rattle.boards.specs.declared.station.Station.TheVariants.{Free, Uncounted, Counted, Ready}

abbrev pub is_free : {Op Answer : Type 0} → Station Op Answer → Bool
is_free Free = true
is_free (Uncounted o) = false
is_free (Counted o a) = false
is_free (Ready o a) = false

abbrev pub is_uncounted : {Op Answer : Type 0} → Station Op Answer → Bool
is_uncounted Free = false
is_uncounted (Uncounted o) = true
is_uncounted (Counted o a) = false
is_uncounted (Ready o a) = false

-- begun, and not ready
abbrev pub is_waiting : {Op Answer : Type 0} → Station Op Answer → Bool
is_waiting Free = false
is_waiting (Uncounted o) = true
is_waiting (Counted o a) = true
is_waiting (Ready o a) = false

-- the station in the same state, with another operation and answer in place of its own
abbrev pub mapped : {Op Answer Op' Answer' : Type 0} → (Op → Op') → (Answer → Answer') → Station Op Answer → Station Op' Answer'
mapped f g Free = Free
mapped f g (Uncounted o) = Uncounted (f o)
mapped f g (Counted o a) = Counted (f o) (g a)
mapped f g (Ready o a) = Ready (f o) (g a)

-- the same, where only a relation is known of what takes their place
abbrev pub Maps : {Op Answer Op' Answer' : Type 0} → (Op → Op' → Type 0) → (Answer → Answer' → Type 0) → Station Op Answer → Station Op' Answer' → Type 0
Maps f g Free to = to ≡ Free
Maps {Op' = Op'} f g (Uncounted o) to = (o' : Op') × f o o' × (to ≡ Uncounted o')
Maps {Op' = Op'} {Answer' = Answer'} f g (Counted o a) to = (o' : Op') × (a' : Answer') × f o o' × g a a' × (to ≡ Counted o' a')
Maps {Op' = Op'} {Answer' = Answer'} f g (Ready o a) to = (o' : Op') × (a' : Answer') × f o o' × g a a' × (to ≡ Ready o' a')

-- the calls that change a board, as functions on its model, with what they tell
pub record Steps (Model Op Answer : Type 0) : Type 0 where
  pub begin : Model → ℕ → Op → Model × Bool
  pub touch : Model → ℕ → Model × (Outcome × Option Answer)
  pub release : Model → ℕ → Model

-- what a model means
pub record Meaning (Model Plain Op Answer : Type 0) : Type 0 where
  pub stations : Model → ℕ
  -- how many of its own touches a waiting station needs at most while no other station is touched
  pub bound : Model → ℕ
  -- a state of the plain machine
  pub contents : Model → Plain
  pub station : Model → ℕ → Station Op Answer
  -- at most how many of its own touches a waiting station needs from here while no other station is touched
  pub distance : Model → ℕ → ℕ
  -- whether there is space for an operation
  pub space : Model → Op → Bool

-- xs written over the front of ys
abbrev pub over : {X : Type 0} → List X → List X → List X
over xs ys = xs ++ drop (length xs) ys

module _ {Model Plain Op Answer : Type 0} (means : Meaning Model Plain Op Answer) where
  -- stations are numbered from 1
  abbrev pub exists : Model → ℕ → Bool
  exists m p = nat_le 1 p && nat_le p (means.stations m)

  -- each of the stations 1 to n is free
  abbrev pub free_to : Model → ℕ → Bool
  free_to m zero = true
  free_to m (suc n) = is_free (means.station m (suc n)) && free_to m n

  abbrev pub all_free : Model → Bool
  all_free m = free_to m (means.stations m)

  -- how many of the stations 1 to n wait uncounted
  abbrev pub uncounted_to : Model → ℕ → ℕ
  uncounted_to m zero = 0
  uncounted_to m (suc n) = cond (is_uncounted (means.station m (suc n))) (suc (uncounted_to m n)) (uncounted_to m n)

  abbrev pub uncounted : Model → ℕ
  uncounted m = uncounted_to m (means.stations m)

  -- Nothing has been done on the board: the contents are empty, every station is free, and there is space for each operation.
  pub record Fresh (empty : Plain) (m : Model) : Type 0 where
    pub contents : means.contents m ≡ empty
    pub station : (p : ℕ) → means.station m p ≡ Free
    pub space : (o : Op) → means.space m o ≡ true
