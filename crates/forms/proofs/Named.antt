-- What a word stands for that was matched byte by byte.
use Rattle.std.proofs.Common.{◌≡◌, ℕ, List, length, sym, ap}
use Rattle.std.proofs.lemmas.Slice.Eq.{HasBytesAt, text_from_reads}

pub named : {A : Type 0} (f : List ℕ → A) (word name : List ℕ) → length word ≡ length name → HasBytesAt word 0 name → f name ≡ f word
named f word name long reads = ap f (sym (text_from_reads word name long reads))
