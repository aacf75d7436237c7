-- How operations and answers print, by how their keys and elements do.
use Rattle.std.specs.Prelude.{ℕ, List, ◌++◌, codes}
use Rattle.plain_model.specs.declared.nest_op.NestOp.{NestOp}
use Rattle.plain_model.specs.declared.nest_op.NestOp.TheVariants as nest
use Rattle.plain_model.specs.declared.nest_op.NestAnswer.{NestAnswer}
use Rattle.plain_model.specs.declared.nest_op.NestAnswer.TheVariants.{Added, There, Dropped, Missing, Yes, No}
use Rattle.plain_model.specs.declared.line_op.LineOp.{LineOp}
use Rattle.plain_model.specs.declared.line_op.LineOp.TheVariants as line
use Rattle.plain_model.specs.declared.line_op.LineAnswer.{LineAnswer}
use Rattle.plain_model.specs.declared.line_op.LineAnswer.TheVariants.{Put, Took, Empty}
use Rattle.plain_model.specs.declared.side.Side.{Side}
use Rattle.plain_model.specs.declared.side.Side.TheVariants.{First, Second}

-- a text after the opening of a form, and the closing bracket
abbrev pub form : List ℕ → List ℕ → List ℕ
form opening text = opening ++ (text ++ codes ")")

abbrev pub nest_op_text : {K : Type 0} → (K → List ℕ) → NestOp K → List ℕ
nest_op_text key (nest.Add k) = form (codes "(add ") (key k)
nest_op_text key (nest.Drop k) = form (codes "(drop ") (key k)
nest_op_text key (nest.Find k) = form (codes "(find ") (key k)

abbrev pub nest_answer_text : NestAnswer → List ℕ
nest_answer_text Added = codes "(added)"
nest_answer_text There = codes "(there)"
nest_answer_text Dropped = codes "(dropped)"
nest_answer_text Missing = codes "(missing)"
nest_answer_text Yes = codes "(yes)"
nest_answer_text No = codes "(no)"

abbrev pub line_op_text : {E : Type 0} → (E → List ℕ) → LineOp E → List ℕ
line_op_text element (line.Put e) = form (codes "(put ") (element e)
line_op_text element line.Take = codes "(take)"

abbrev pub line_answer_text : {E : Type 0} → (E → List ℕ) → LineAnswer E → List ℕ
line_answer_text element Put = codes "(put)"
line_answer_text element (Took e) = form (codes "(took ") (element e)
line_answer_text element Empty = codes "(empty)"

abbrev pub side_text : {A B : Type 0} → (A → List ℕ) → (B → List ℕ) → Side A B → List ℕ
side_text first second (First a) = first a
side_text first second (Second b) = second b
