-- Head and Tail are nodes of the table.
use Rattle.std.proofs.Common.{◌<◌, length, subst}
use Rattle.std.proofs.lemmas.Bool.{lt-ltb, and_from}
use Rattle.line.proofs.board.LineBoard.touch.Goals as goal

pub go-requires : goal.go-requires
go-requires g c =
    let i = c.go.inside in
    and_from _ _ c.in-E1.ensures.within (lt-ltb i.tail (length c.args.self.now.nodes) (subst (λ m. i.tail < length m.nodes) c.go.view_is c.go.invariant.tails))

pub go-requires-in-D1 : goal.go-requires-in-D1
go-requires-in-D1 g c =
    let i = c.go-in-D1.inside in
    lt-ltb i.head (length c.args.self.now.nodes) (subst (λ m. i.head < length m.nodes) c.go-in-D1.view_is c.go-in-D1.invariant.heads)

pub go-requires-in-D2 : goal.go-requires-in-D2
go-requires-in-D2 g c =
    let i = c.go-in-D2.inside in
    and_from _ _ c.in-D2.ensures.within (lt-ltb i.tail (length c.args.self.now.nodes) (subst (λ m. i.tail < length m.nodes) c.go-in-D2.view_is c.go-in-D2.invariant.tails))
