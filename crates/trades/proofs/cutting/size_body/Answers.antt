use Rattle.std.proofs.Common.{◌≡◌, codes, rules}
use Rattle.std.proofs.lemmas.Slice.Eq.{text_from_reads}
use Rattle.trades.proofs.cutting.size_body.Goals as goal

pub returns-in-letter : goal.returns-in-letter
returns-in-letter c =
    let is : c.args.name.now ≡ codes "letter" = text_from_reads _ _ (search rules) (search rules) in
    rw is c.letter_label.ensures
