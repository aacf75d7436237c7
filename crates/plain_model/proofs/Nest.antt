-- The plain nest stays strictly ascending, whatever operation is applied.
use Rattle.std.proofs.Common.{◌≡◌, Bool, true, false, cond, List, [], ◌∷◌, Ok, Err, Result, sym, refl, ap, subst, arith}
use Rattle.std.proofs.lemmas.Bool.{or_parts}
use Rattle.std.proofs.lemmas.Bool.Decides.{nat_tests}
use Rattle.keys.specs.Order.{Total}
use Rattle.keys.specs.declared.refusal.Refusal.{Refusal}
use Rattle.plain_model.specs.Machine.{Applied}
use Rattle.plain_model.specs.Nest.{same, has, insert, remove, apply, grows, nest, Leads, Ascending}
use Rattle.plain_model.specs.declared.nest_op.NestOp.{NestOp}
use Rattle.plain_model.specs.declared.nest_op.NestOp.TheVariants.{Add, Drop, Find}
use Rattle.plain_model.specs.declared.nest_op.NestAnswer.{NestAnswer}
use Rattle.plain_model.specs.declared.nest_op.NestAnswer.TheVariants.{Added, There, Dropped, Missing}

module _ {K : Type 0} (before : K → K → Bool) (total : Total before) where
  insert_leads : (x k : K) (xs : List K) → before x k ≡ true → Leads before x xs → Leads before x (insert before k xs)
  insert_leads x k [] h l = h
  insert_leads x k (y ∷ ys) h l = elim (before y k) as (λ b. Leads before x (cond b (y ∷ insert before k ys) (k ∷ y ∷ ys))) [ true ↦ l | false ↦ h ]

  differs : (k x : K) → same before k x ≡ false → before x k ≡ false → before k x ≡ true
  differs k x d h = grind (arith, nat_tests)

  insert_ascending : (k : K) (xs : List K) → has before k xs ≡ false → Ascending before xs → Ascending before (insert before k xs)
  insert_ascending k [] h a = (tt, tt)
  insert_ascending k (x ∷ xs) h a = by (insert_ascending k xs (or_parts _ _ h).1 a.1) (before x k) refl
    where
      by : Ascending before (insert before k xs) → (b : Bool) → before x k ≡ b → Ascending before (cond b (x ∷ insert before k xs) (k ∷ x ∷ xs))
      by rest true e = (insert_leads x k xs e a.0, rest)
      by rest false e = (differs k x (or_parts _ _ h).0 e, a)

  leads_on : (x y : K) (ys : List K) → before x y ≡ true → Leads before y ys → Leads before x ys
  leads_on x y [] h l = tt
  leads_on x y (z ∷ zs) h l = total.carries x y z h l

  remove_leads : (x k : K) (xs : List K) → Leads before x xs → Ascending before xs → Leads before x (remove before k xs)
  remove_leads x k [] l a = tt
  remove_leads x k (y ∷ ys) l a = elim (same before k y) as (λ b. Leads before x (cond b ys (y ∷ remove before k ys))) [ true ↦ leads_on x y ys l a.0 | false ↦ l ]

  remove_ascending : (k : K) (xs : List K) → Ascending before xs → Ascending before (remove before k xs)
  remove_ascending k [] a = tt
  remove_ascending k (x ∷ xs) a = elim (same before k x) as (λ b. Ascending before (cond b xs (x ∷ remove before k xs))) [ true ↦ a.1 | false ↦ (remove_leads x k xs a.0 a.1, remove_ascending k xs a.1) ]

  pub apply_ascending : (o : NestOp K) (xs : List K) → Ascending before xs → Ascending before (apply before o xs).0
  apply_ascending (Add k) xs a = by (has before k xs) refl
    where
      by : (b : Bool) → has before k xs ≡ b → Ascending before (cond {A = List K × NestAnswer} b (xs, There) (insert before k xs, Added)).0
      by true e = a
      by false e = insert_ascending k xs e a
  apply_ascending (Drop k) xs a = elim (has before k xs) as (λ b. Ascending before (cond {A = List K × NestAnswer} b (remove before k xs, Dropped) (xs, Missing)).0) [ true ↦ remove_ascending k xs a | false ↦ a ]
  apply_ascending (Find k) xs a = a

  -- the same of a call that may find no memory
  pub applied_ascending : (o : NestOp K) (was now : List K) (r : Result NestAnswer Refusal) → Applied (nest before) (grows before) o was now r → Ascending before was → Ascending before now
  applied_ascending o was now (Ok a) e asc = subst (λ (s : List K). Ascending before s) (sym (ap (λ (s : List K × NestAnswer). s.0) e)) (apply_ascending o was asc)
  applied_ascending o was now (Err x) e asc = subst (λ (s : List K). Ascending before s) (sym e.0) asc
