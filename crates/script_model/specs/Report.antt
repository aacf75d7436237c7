-- The report at the end of a run.
use Rattle.std.specs.Prelude.{ℕ, List, [], ◌∷◌, ◌++◌, codes}
use Rattle.floor_model.specs.declared.line.Line.{Line}
use Rattle.script_model.specs.Replies.{line_of}
pub use Rattle.floor_model.specs.Printed.{entry_text}

-- the texts of items one after another
abbrev pub joined : {X : Type 0} → (X → List ℕ) → List X → List ℕ
joined text [] = []
joined text (x ∷ xs) = text x ++ joined text xs

abbrev pub after_space : {X : Type 0} → (X → List ℕ) → X → List ℕ
after_space text x = codes " " ++ text x

abbrev pub on_line : {X : Type 0} → (X → List ℕ) → X → List ℕ
on_line text x = line_of (text x)

-- (NAME X ..), on a line
abbrev pub list_text : {X : Type 0} → (X → List ℕ) → List ℕ → List X → List ℕ
list_text text name xs = (codes "(" ++ name) ++ (joined (after_space text) xs ++ codes ")\n")

-- the contents of the nest, those of the line, and the ledger, line by line
abbrev pub report_text : {K E Op Answer : Type 0} → (K → List ℕ) → (E → List ℕ) → (Op → List ℕ) → (Answer → List ℕ) → List K → List E → List (Line Op Answer) → List ℕ
report_text key element op answer keys elements lines =
    list_text key (codes "nest") keys ++ (list_text element (codes "line") elements ++ joined (on_line (entry_text op answer)) lines)
