-- The model of a line that the code holds.
use Rattle.std.specs.Prelude.{vec_items}
use Rattle.line_model.specs.Line.{LineModel}
use Rattle.line.specs.declared.Line.TheInside.{Inside}

abbrev pub view_of : {E : Type 0} → Inside E → LineModel E
view_of l = record { nodes = vec_items l.nodes; taken = l.taken; head = l.head; tail = l.tail; seats = vec_items l.seats }
