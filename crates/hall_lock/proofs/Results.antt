-- Results, by what they are.
use Rattle.std.proofs.Common.{Result, Ok, Err}
use Rattle.std.specs.Prelude.{IfOk, IfErr, OnErr, OnOk}

pub either : {T E A B : Type 0} {P : T → Type 0} (r : Result T E) → IfOk r P → ((x : T) → P x → A) → OnErr r B → (B → A) → A
either (Ok x) ok good err bad = good x ok
either (Err e) ok good err bad = bad err

pub ok_map : {T E : Type 0} {P Q : T → Type 0} (r : Result T E) → IfOk r P → ((x : T) → P x → Q x) → IfOk r Q
ok_map (Ok x) ok good = good x ok
ok_map (Err e) ok good = tt

pub ok_both : {T E : Type 0} {P Q R : T → Type 0} (r : Result T E) → IfOk r P → IfOk r Q → ((x : T) → P x → Q x → R x) → IfOk r R
ok_both (Ok x) p q good = good x p q
ok_both (Err e) p q good = tt

pub err_map : {T E A B : Type 0} (r : Result T E) → OnErr r A → (A → B) → OnErr r B
err_map (Ok x) err bad = tt
err_map (Err e) err bad = bad err

pub ok_all : {T E : Type 0} {P Q R S : T → Type 0} (r : Result T E) → IfOk r P → IfOk r Q → IfOk r R → ((x : T) → P x → Q x → R x → S x)
    → IfOk r S
ok_all (Ok x) p q s good = good x p q s
ok_all (Err e) p q s good = tt

pub err_if : {T E : Type 0} {P Q : E → Type 0} (r : Result T E) → IfErr r P → ((e : E) → P e → Q e) → IfErr r Q
err_if (Ok x) err bad = tt
err_if (Err e) err bad = bad e err

-- the same where something more holds if there is a value
pub either_on : {T E A B Q : Type 0} {P : T → Type 0} (r : Result T E) → IfOk r P → OnOk r Q → ((x : T) → P x → Q → A) → OnErr r B → (B → A)
    → A
either_on (Ok x) ok on good err bad = good x ok on
either_on (Err e) ok on good err bad = bad err

pub ok_all_on : {T E U : Type 0} {P Q R S : T → Type 0} (r : Result T E) → IfOk r P → OnOk r U → IfOk r Q → IfOk r R
    → ((x : T) → P x → U → Q x → R x → S x) → IfOk r S
ok_all_on (Ok x) p u q s good = good x p u q s
ok_all_on (Err e) p u q s good = tt
