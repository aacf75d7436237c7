-- The letter is ASCII, so it is written as one byte.
use Rattle.std.proofs.Common.{◌≡◌, ℕ, List, [], ◌∷◌, ◌++◌, codes, decimal, subst, rules}
use lib.Utf8.{encode}
use Rattle.std.specs.Fmt.{HasWritten}
use Rattle.std.proofs.lemmas.Str.{encode_ascii}
use Rattle.keys.specs.Makings.{catalogued_ascii}
use Rattle.keys.proofs.piece_code.PieceCodeDisplay.fmt.Goals as goal

pub returns-clause-writes : goal.returns-clause-writes
returns-clause-writes g c plain ok =
    let p = c.args.self.now in
    let e : encode p.letter ≡ p.letter ∷ [] = encode_ascii p.letter (catalogued_ascii p.letter p.number p.fits) in
    let P : List ℕ → Type 0 = λ bs. HasWritten {W = g.row.W.Denot} g.W.Write.write_str_gives c.args.f.now (codes "(piece " ++ (bs ++ (codes " " ++ (decimal p.number ++ codes ")")))) c.write.new.self in
    subst P e (search rules)
