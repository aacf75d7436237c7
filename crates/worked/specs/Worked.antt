-- Floors that were worked by hand: what each prints, line by line. Where a size is not told S is 3 and the others are 8.
use Rattle.std.specs.Prelude.{◌≡◌, ℕ, true, List, [], ◌∷◌, ◌++◌, replicate, is_ok, Err, codes}
use Rattle.keys.specs.Pieces as pieces
use Rattle.keys.specs.Sizes as sizes
use Rattle.keys.specs.declared.piece_code.PieceCode.{PieceCode}
use Rattle.keys.specs.declared.refusal.Refusal.TheVariants.{OutOfRange}
use Rattle.keys.specs.declared.size_label.LetterSize.TheVariants.{Xxl}
use Rattle.keys.specs.declared.size_label.SizeLabel.TheVariants.{Letter, Waist}
use Rattle.keys.specs.declared.size_label.WaistSize.{WaistSize}
use Rattle.script_model.specs.Replies.{line_of}
use Rattle.script.specs.Script.{script_run}

-- lines as bytes
abbrev pub text_of : List (List ℕ) → List ℕ
text_of [] = []
text_of (line ∷ lines) = line_of line ++ text_of lines

-- a script of these lines prints those
abbrev pub Prints : (script printed : List (List ℕ)) → Type 0
Prints script printed = (script_run (text_of script)).0 ≡ text_of printed

-- the report of a floor whose nest and line are empty and on whose ledger nothing is written
abbrev pub nothing_done : List (List ℕ)
nothing_done = codes "(nest)" ∷ codes "(line)" ∷ []

-- an operation of a station that works alone, from its start to its collection, and what it prints
abbrev pub alone : (start touch collect : List ℕ) → (touches : ℕ) → List (List ℕ) → List (List ℕ)
alone start touch collect touches rest = start ∷ (replicate touches touch ++ (collect ∷ rest))

abbrev pub at_once : (before : ℕ) → (last answer : List ℕ) → List (List ℕ) → List (List ℕ)
at_once before last answer rest = codes "(started)" ∷ (replicate before (codes "(going)") ++ (last ∷ answer ∷ rest))

pub record WorkedFloors : Type 0 where
  -- A floor has 1 to 16 stations.
  pub sixteen_stations : Prints (codes "(floor cutting 16 8 8 8)" ∷ []) (codes "(opened)" ∷ nothing_done)
  pub no_station : Prints (codes "(floor cutting 0 8 8 8)" ∷ []) (codes "(refused 1)" ∷ [])
  pub seventeen_stations : Prints (codes "(floor cutting 17 8 8 8)" ∷ []) (codes "(refused 1)" ∷ [])
  -- A ledger of one line: the line is promised to station 1, so the start of station 2 is sent back, over an empty ledger.
  pub line_promised : Prints
      (codes "(floor cutting 3 1 8 8)" ∷ codes "(start 1 (take))" ∷ codes "(start 2 (take))" ∷ [])
      (codes "(opened)" ∷ codes "(started)" ∷ codes "(refused 11)" ∷ nothing_done)
  -- A nest of one node: station 1 adds a key, and the start of an add at station 2 is sent back.
  pub no_node_for_a_key : Prints
      (codes "(floor cutting 3 8 1 8)" ∷ alone (codes "(start 1 (add (letter m)))") (codes "(touch 1)") (codes "(collect 1)") 2
      (codes "(start 2 (add (letter l)))" ∷ []))
      (codes "(opened)" ∷ at_once 1 (codes "(counted ready)") (codes "(added)")
      (codes "(refused 12)" ∷ codes "(nest (letter m))" ∷ codes "(line)" ∷ codes "(entry 1 1 (add (letter m)) (added))" ∷ []))
  -- A line of one node: an element is put and taken, and the start of another put is sent back.
  pub no_node_for_an_element : Prints
      (codes "(floor cutting 3 8 8 1)" ∷ alone (codes "(start 1 (put (ticket (letter m) 1)))") (codes "(touch 1)") (codes "(collect 1)") 5
      (alone (codes "(start 1 (take))") (codes "(touch 1)") (codes "(collect 1)") 4
      (codes "(start 1 (put (ticket (letter m) 1)))" ∷ [])))
      (codes "(opened)" ∷ codes "(started)" ∷ codes "(going)" ∷ codes "(going)" ∷ codes "(going)" ∷ codes "(counted)" ∷ codes "(ready)" ∷ codes "(put)" ∷
      at_once 3 (codes "(counted ready)") (codes "(took (ticket (letter m) 1))")
      (codes "(refused 12)" ∷ codes "(nest)" ∷ codes "(line)" ∷
      codes "(entry 1 1 (put (ticket (letter m) 1)) (put))" ∷ codes "(entry 1 2 (take) (took (ticket (letter m) 1)))" ∷ []))
  -- Waists are 40 to 160.
  pub waist_39 : sizes.waist_size 39 76 ≡ Err OutOfRange
  pub waist_161 : sizes.waist_size 161 76 ≡ Err OutOfRange
  pub waist_40 : is_ok (sizes.waist_size 40 76) ≡ true
  pub waist_160 : is_ok (sizes.waist_size 160 76) ≡ true
  -- The largest letter size is before the smallest waist, a waist with the longest leg before the next waist, and the last
  -- piece of a letter before the first of the next.
  pub letters_first : (u : WaistSize) → u.waist ≡ 40 → u.leg ≡ 50 → sizes.before (Letter Xxl) (Waist u) ≡ true
  pub by_waist : (u v : WaistSize) → u.waist ≡ 82 → u.leg ≡ 110 → v.waist ≡ 83 → v.leg ≡ 50 → sizes.before (Waist u) (Waist v) ≡ true
  pub by_letter : (p q : PieceCode) → p.letter ≡ 65 → p.number ≡ 999 → q.letter ≡ 66 → q.number ≡ 1 → pieces.before p q ≡ true
  -- A nest of one node, whose key was added and dropped: a find of it takes five touches, and the answer is no.
  pub five_touches : Prints
      (codes "(floor cutting 3 8 1 8)" ∷ alone (codes "(start 1 (add (letter m)))") (codes "(touch 1)") (codes "(collect 1)") 2
      (alone (codes "(start 1 (drop (letter m)))") (codes "(touch 1)") (codes "(collect 1)") 3
      (alone (codes "(start 1 (find (letter m)))") (codes "(touch 1)") (codes "(collect 1)") 5 [])))
      (codes "(opened)" ∷ at_once 1 (codes "(counted ready)") (codes "(added)")
      (at_once 2 (codes "(counted ready)") (codes "(dropped)")
      (at_once 4 (codes "(counted ready)") (codes "(no)")
      (codes "(nest)" ∷ codes "(line)" ∷ codes "(entry 1 1 (add (letter m)) (added))" ∷ codes "(entry 1 2 (drop (letter m)) (dropped))" ∷
      codes "(entry 1 3 (find (letter m)) (no))" ∷ []))))
  -- A fresh line: station 1 starts a take and is touched once; station 2 puts and takes; station 3 puts up to the touch that
  -- counts. Then station 1 needs eleven touches more.
  pub eleven_touches : Prints
      (codes "(floor cutting 3 8 8 8)" ∷ codes "(start 1 (take))" ∷ codes "(touch 1)" ∷
      alone (codes "(start 2 (put (ticket (letter m) 1)))") (codes "(touch 2)") (codes "(collect 2)") 5
      (alone (codes "(start 2 (take))") (codes "(touch 2)") (codes "(collect 2)") 4
      (codes "(start 3 (put (ticket (letter m) 2)))" ∷ (replicate 4 (codes "(touch 3)") ++ (replicate 11 (codes "(touch 1)") ++ (codes "(collect 1)" ∷ []))))))
      (codes "(opened)" ∷ codes "(started)" ∷ codes "(going)" ∷
      codes "(started)" ∷ codes "(going)" ∷ codes "(going)" ∷ codes "(going)" ∷ codes "(counted)" ∷ codes "(ready)" ∷ codes "(put)" ∷
      at_once 3 (codes "(counted ready)") (codes "(took (ticket (letter m) 1))")
      (codes "(started)" ∷ codes "(going)" ∷ codes "(going)" ∷ codes "(going)" ∷ codes "(counted)" ∷
      (replicate 10 (codes "(going)") ++
      (codes "(counted ready)" ∷ codes "(took (ticket (letter m) 2))" ∷ codes "(nest)" ∷ codes "(line)" ∷
      codes "(entry 2 1 (put (ticket (letter m) 1)) (put))" ∷ codes "(entry 2 2 (take) (took (ticket (letter m) 1)))" ∷
      codes "(entry 3 1 (put (ticket (letter m) 2)) (put))" ∷ codes "(entry 1 1 (take) (took (ticket (letter m) 2)))" ∷ []))))
