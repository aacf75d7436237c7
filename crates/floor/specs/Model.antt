-- A floor's model, in whatever phase it is. A struct with a bound takes the bound's associated types and ghost members too.
use Rattle.floor_model.specs.Floor.{Floor}
use Rattle.boards.specs.declared.board.Board.{Ghosts}
use Rattle.floor.specs.declared.floor.Floor.{Floor as Struct}

abbrev pub floor_of : {B Phase Op Answer Item Model : Type 0} {g : Ghosts B Op Answer Item} → (B → Model) → Struct B Phase Op Answer Item g → Floor Model
floor_of model f = record { board = model f.board; limit = f.limit; written = f.written; turns = f.turns }
