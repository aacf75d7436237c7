-- The key is removed from the place where the search finds it.
use Rattle.std.proofs.Common.{Some, None, vec_items, sym, ◌∙◌, subst, rules}
use Rattle.plain.specs.Search.{Stands}
use Rattle.plain.proofs.Search.{stands}
use Rattle.plain.proofs.plain_nest.PlainNest.remove.Goals as goal

pub returns-in-Some : goal.returns-in-Some
returns-in-Some g c =
    let keys = vec_items c.args.self.now.keys in
    let there : Stands g.K.Key.before c.args.key.now keys (Some c.in-Some.place) = subst (Stands g.K.Key.before c.args.key.now keys) (sym c.find.ensures ∙ c.in-Some.is) (stands g.K.Key.before c.args.key.now keys) in
    search (there.1, there.2, rules)

pub returns-in-None : goal.returns-in-None
returns-in-None g c =
    let keys = vec_items c.args.self.now.keys in
    let none : Stands g.K.Key.before c.args.key.now keys None = subst (Stands g.K.Key.before c.args.key.now keys) (sym c.find.ensures ∙ c.in-None.is) (stands g.K.Key.before c.args.key.now keys) in
    rw none search rules
