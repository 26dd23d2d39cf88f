-- An entry in front of others.
use Rattle.std.proofs.Common.{ℕ, ◌≡◌, ◌≢◌, Bool, true, false, List, Option, Some, None, IfSome, MatchBool, cond, is_some, ◌+◌, if◌then◌else◌, ap, sym, subst, ◌∙◌, refl, arith}
use Rattle.std.proofs.lemmas.Bool.{false≢true}
use Rattle.std.proofs.lemmas.Grind.{common_steps}
use Rattle.std.specs.BTreeMap.{BTreeMap, UpdatesBy, btree_map_len}
use Rattle.std.specs.Ordering.{nat_cmp}
use Rattle.std.specs.Prelude.{nat_eq}
use Rattle.kept_zones.specs.Nearest.{IsFirstOfAll}
use Rattle.kept_zones.specs.Overwriting.{HasZone, LacksZone, last_of}
use Rattle.kept_zones.specs.Places.{HasNoOther, LacksKey, put_before}
use Rattle.kept_zones.proofs.Changes.{Drops, Sets}
use Rattle.kept_zones.proofs.Maps.{apart_test, dropped_from}

at_key_by : (slot : Option (ℕ × ℕ)) (e : ℕ × ℕ) (key : ℕ) (b : Bool) → slot ≡ Some e → nat_eq e.0 key ≡ b
    → MatchBool b ((value : ℕ) × (slot ≡ Some (key, value))) (IfSome slot (λ x. x.0 ≢ key))
at_key_by slot e key true is test =
    let same : e.0 ≡ key = grind (arith, common_steps) in
    (e.1, is ∙ ap (λ k. Some (k, e.1)) same)
at_key_by slot e key false is test =
    let apart : e.0 ≢ key = λ same. absurd (grind (arith, common_steps)) in
    subst (λ (o : Option (ℕ × ℕ)). IfSome o (λ x. x.0 ≢ key)) (sym is) apart

pub at_key : (slot : Option (ℕ × ℕ)) (e : ℕ × ℕ) (key : ℕ) → slot ≡ Some e
    → MatchBool (nat_eq e.0 key) ((value : ℕ) × (slot ≡ Some (key, value))) (IfSome slot (λ x. x.0 ≢ key))
at_key slot e key is = at_key_by slot e key (nat_eq e.0 key) is refl

-- ---- other keys

alone : (e : ℕ × ℕ) (key : ℕ) → e.0 ≡ key → (es : List (ℕ × ℕ)) → HasNoOther es key → HasNoOther (put_before (Some e) es) key
alone e key here es none q apart = ap (λ b. cond b (Some e.1) (last_of es q)) (apart_test q e.0 (λ is. apart (sym is ∙ here))) ∙ none q apart

pub alone_by : (slot : Option (ℕ × ℕ)) (e : ℕ × ℕ) (key : ℕ) → slot ≡ Some e → nat_eq e.0 key ≡ true → (es : List (ℕ × ℕ)) → HasNoOther es key → HasNoOther (put_before slot es) key
alone_by slot e key is test =
    let same : e.0 ≡ key = grind (arith, common_steps) in
    subst (λ (o : Option (ℕ × ℕ)). (es : List (ℕ × ℕ)) → HasNoOther es key → HasNoOther (put_before o es) key) (sym is) (alone e key same)

-- a map has no other key if its parts have none
pub none_alone : (first second : Option (ℕ × ℕ)) (more : List (ℕ × ℕ)) (key : ℕ) → IsFirstOfAll more None
    → ((es : List (ℕ × ℕ)) → HasNoOther es key → HasNoOther (put_before first es) key) → ((es : List (ℕ × ℕ)) → HasNoOther es key → HasNoOther (put_before second es) key)
    → HasNoOther (put_before first (put_before second more)) key
none_alone first second more key none one other = one (put_before second more) (other more (λ q apart. none q))

-- ---- what is put in, and taken out

pub sets_zone : (old : List (ℕ × ℕ)) (end last : ℕ) (new : List (ℕ × ℕ)) → HasZone old end last new → Sets (last_of old) end last (last_of new)
sets_zone old end last new h = record { here = h.here; others = h.others }

pub drops_zone : (old : List (ℕ × ℕ)) (end : ℕ) (new : List (ℕ × ℕ)) → LacksZone old end new → Drops (last_of old) end (last_of new)
drops_zone old end new h = record { here = h.here; others = h.others }

-- the tree without the key
pub tree_lacks : (m n : BTreeMap ℕ ℕ) (key : ℕ) → UpdatesBy nat_cmp (nat_cmp key) m n None → (o : Option ℕ) → o ≡ last_of m.entries key
    → btree_map_len n + (if is_some o then 1 else 0) ≡ btree_map_len m → LacksKey m.entries key n.entries
tree_lacks m n key u None at len = record {
  gone = (let d = dropped_from m n key u in record { here = d.here; others = d.others });
  no_more = omega arith;
  fewer = λ some. absurd (false≢true (ap is_some at ∙ some));
}
tree_lacks m n key u (Some v) at len = record {
  gone = (let d = dropped_from m n key u in record { here = d.here; others = d.others });
  no_more = omega arith;
  fewer = λ some. omega arith;
}
