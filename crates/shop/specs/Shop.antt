-- The floor of a shop: its board is the pair of a nest and a line.
use Rattle.std.specs.Prelude.{◌≡◌, ℕ, ◌+◌, ◌≤◌, Bool, false, not, ◌&&◌, List, replicate, Some, None, Option, nat_le}
use Rattle.keys.specs.declared.refusal.Refusal.{Refusal}
use Rattle.keys.specs.declared.refusal.Refusal.TheVariants.{StationCount, LedgerLimit, NestSize, LineSize, NoMemory}
use Rattle.plain_model.specs.Machine.{Machine}
use Rattle.plain_model.specs.Nest as plain_nest
use Rattle.plain_model.specs.Line as plain_line
use Rattle.plain_model.specs.Pair.{pair}
use Rattle.plain_model.specs.declared.nest_op.NestOp.{NestOp}
use Rattle.plain_model.specs.declared.nest_op.NestAnswer.{NestAnswer}
use Rattle.plain_model.specs.declared.line_op.LineOp.{LineOp}
use Rattle.plain_model.specs.declared.line_op.LineOp.TheVariants as line_op
use Rattle.plain_model.specs.declared.line_op.LineAnswer.{LineAnswer}
use Rattle.plain_model.specs.declared.line_op.LineAnswer.TheVariants as line_answer
use Rattle.plain_model.specs.declared.side.Side.{Side}
use Rattle.plain_model.specs.declared.side.Side.TheVariants.{Second}
use Rattle.boards.specs.Board.{Steps, Meaning}
use Rattle.nest_model.specs.Model.{NestModel, steps as nest_steps}
use Rattle.nest_model.specs.Making.{made}
use Rattle.nest_model.specs.Meaning as nest_meaning
use Rattle.nest_model.specs.Sound.{Sound as NestSound}
use Rattle.nest_model.specs.declared.node.Node.{Node as NestNode}
use Rattle.nest.specs.declared.Nest.{Nest}
use Rattle.line_model.specs.Line.{LineModel, steps as line_steps}
use Rattle.line_model.specs.Fresh.{fresh}
use Rattle.line_model.specs.Meaning as line_meaning
use Rattle.line_model.specs.Sound.{Sound as LineSound}
use Rattle.line_model.specs.declared.node.Node.{Node as LineNode}
use Rattle.line.specs.declared.Line.{Line}
use Rattle.pair_model.specs.Pair.{pair_steps, pair_means, Sound as PairSound}
use Rattle.pair.specs.declared.pair.Pair.{Pair}
use Rattle.floor_model.specs.Floor.{Floor, refuse_if, opened, Fits}
use Rattle.floor_model.specs.Law.{Law}
use Rattle.floor_model.specs.declared.line.Line.{Line as LedgerLine}

-- an unused node of the nest and of the line
abbrev pub nest_node : {K : Type 0} → K → NestNode K
nest_node k = record { key = k; cell = record { next = None; mark = false } }

abbrev pub line_node : {E : Type 0} → E → LineNode E
line_node e = record { element = e; next = None }

-- Why a floor with so many stations, ledger lines, nodes of the nest and nodes of the line is not opened.
abbrev pub shop_refusal : (stations limit nest-nodes line-nodes : ℕ) → Option Refusal
shop_refusal stations limit nest-nodes line-nodes =
    refuse_if (not (nat_le 1 stations && nat_le stations 16)) StationCount
    (refuse_if (not (nat_le 1 limit && nat_le limit 1024)) LedgerLimit
    (refuse_if (not (nat_le 1 nest-nodes && nat_le nest-nodes 512)) NestSize
    (refuse_if (not (nat_le 1 line-nodes && nat_le line-nodes 512)) LineSize None)))

-- the ranges of these sizes
pub record InRange (stations limit nest-nodes line-nodes : ℕ) : Type 0 where
  pub stations_fit : (1 ≤ stations) × (stations ≤ 16)
  pub limit_fits : (1 ≤ limit) × (limit ≤ 1024)
  pub nest_fits : (1 ≤ nest-nodes) × (nest-nodes ≤ 512)
  pub line_fits : (1 ≤ line-nodes) × (line-nodes ≤ 512)

-- where nothing else stands in the way, memory is lacking
abbrev pub or_memory : Option Refusal → Refusal
or_memory None = NoMemory
or_memory (Some c) = c

-- operations, answers and the model of a shop's board
abbrev pub ShopOp : Type 0 → Type 0 → Type 0
ShopOp K E = Side (NestOp K) (LineOp E)

abbrev pub ShopAnswer : Type 0 → Type 0
ShopAnswer E = Side NestAnswer (LineAnswer E)

abbrev pub ShopModel : Type 0 → Type 0 → Type 0
ShopModel K E = NestModel K × LineModel E

abbrev pub shop_model : {K E : Type 0} → Pair (Nest K) (Line E) → ShopModel K E
shop_model b = (b.first, b.second)

-- the board just made
abbrev pub shop_board : {K E : Type 0} → (stations nest-nodes line-nodes : ℕ) → K → E → ShopModel K E
shop_board stations nest-nodes line-nodes key element =
    (made stations nest-nodes (replicate (nest-nodes + 2) (nest_node key)), fresh stations line-nodes (replicate (line-nodes + 1) (line_node element)))

-- a line of the ledger before anything is written on it
abbrev pub blank_line : {K E : Type 0} → LedgerLine (ShopOp K E) (ShopAnswer E)
blank_line = record { station = 0; turn = 0; operation = Second line_op.Take; answer = Second line_answer.Empty }

module _ {K : Type 0} (E : Type 0) (before : K → K → Bool) where
  abbrev pub shop_plain : Machine (List K × List E) (ShopOp K E) (ShopAnswer E) (Side K E)
  shop_plain = pair (plain_nest.nest before) plain_line.line

  abbrev pub shop_means : Meaning (ShopModel K E) (List K × List E) (ShopOp K E) (ShopAnswer E)
  shop_means = pair_means (nest_meaning.means before) line_meaning.means

  abbrev pub shop_steps : Steps (ShopModel K E) (ShopOp K E) (ShopAnswer E)
  shop_steps = pair_steps (nest_meaning.means before) line_meaning.means (nest_steps before) line_steps

  -- the invariant of the board
  abbrev pub ShopSound : ShopModel K E → Type 0
  ShopSound = PairSound (nest_meaning.means before) line_meaning.means (NestSound before) LineSound

-- A floor just opened with its ledger: which it is, that it fits its invariant, and the law of every list of calls.
pub record ShopOpened {K E : Type 0} (before : K → K → Bool) (stations limit nest-nodes line-nodes : ℕ) (key : K) (element : E)
    (floor : Floor (ShopModel K E)) (ledger : List (LedgerLine (ShopOp K E) (ShopAnswer E))) : Type 0 where
  pub floor_is : floor ≡ opened (shop_board stations nest-nodes line-nodes key element) limit
  pub ledger_is : ledger ≡ replicate limit blank_line
  pub fits : Fits (shop_means E before) (ShopSound E before) floor
  pub law : Law (shop_plain E before) (shop_steps E before) (shop_means E before) (record { floor = floor; ledger = ledger })
