-- What a tree's members are once its numbers are read: of a name that comes twice the last member stays.
use Rattle.std.proofs.Common.{◌≡◌, ℕ, List, Bool, true, false, ◌&&◌, cond, Option, Some, None, refl, sym, ap, ◌∙◌, subst}
use Rattle.std.specs.Prelude.{is_some, option_map, option_and_then}
use Rattle.std.specs.Str.{bytes_eq}
use Rattle.std.specs.Cmp.Lexicographic.{bytes_decides}
use Rattle.std.proofs.lemmas.Option.{none-some, same_Some}
use Rattle.json.specs.Json as json
use Rattle.json.specs.Find as tree
use Rattle.serde_json.specs.Data as values
use Rattle.serde_json.specs.Data.{Data, put}
use Rattle.serde_json.specs.Find as find
use Rattle.serde_json.specs.Read.{number_of, of_json, of_items, of_members}
use Rattle.serde_json.proofs.Views.{get_member-put, get_member-put_other}
use Rattle.file_format.specs.Trees.{has_numbers, items_have_numbers, members_have_numbers}

-- a tree is read exactly where its numbers are
abbrev Is : {A : Type 0} → Bool → Option A → Type 0
Is b o = is_some o ≡ b

mutual
  pub read_of : (j : json.Json) → is_some (of_json j) ≡ has_numbers j
  read_of json.null = refl
  read_of (json.boolean b) = refl
  read_of (json.number s) = mapped (number_of s)
    where
      mapped : (o : Option values.Num) → is_some (option_map values.number o) ≡ is_some o
      mapped None = refl
      mapped (Some n) = refl
  read_of (json.string s) = refl
  read_of (json.array js) = mapped (of_items js) ∙ items_read js
    where
      mapped : (o : Option values.Items) → is_some (option_map values.array o) ≡ is_some o
      mapped None = refl
      mapped (Some n) = refl
  read_of (json.object ms) = mapped (of_members ms values.no_members) ∙ members_read ms values.no_members
    where
      mapped : (o : Option values.Members) → is_some (option_map values.object o) ≡ is_some o
      mapped None = refl
      mapped (Some n) = refl

  items_read : (js : json.Items) → is_some (of_items js) ≡ items_have_numbers js
  items_read json.no_items = refl
  items_read (json.item j js) = both (of_json j) (of_items js) (has_numbers j) (items_have_numbers js) (read_of j) (items_read js)
    where
      both : (o : Option Data) (p : Option values.Items) (a b : Bool) → is_some o ≡ a → is_some p ≡ b
          → is_some (option_and_then (λ d. option_map (values.item d) p) o) ≡ (a && b)
      both None p a b e f = rw (sym e) refl
      both (Some d) None a b e f = rw (sym e, sym f) refl
      both (Some d) (Some ds) a b e f = rw (sym e, sym f) refl

  members_read : (ms : json.Members) (found : values.Members) → is_some (of_members ms found) ≡ members_have_numbers ms
  members_read json.no_members found = refl
  members_read (json.member k j ms) found =
      both (of_json j) (has_numbers j) (members_have_numbers ms) (read_of j) (λ d. members_read ms (put k d found))
    where
      both : (o : Option Data) (a b : Bool) → is_some o ≡ a → ((d : Data) → is_some (of_members ms (put k d found)) ≡ b)
          → is_some (option_and_then (λ d. of_members ms (put k d found)) o) ≡ (a && b)
      both None a b e f = rw (sym e) refl
      both (Some d) a b e f = rw (sym e) (f d)

-- the tree's member of a name, and the value's before and after: without one, what was before stays
unfoldable pub IsFound : Option json.Json → Option Data → Option Data → Type 0
IsFound None before after = after ≡ before
IsFound (Some j) before after = (d : Data) × (of_json j ≡ Some d) × (after ≡ Some d)

-- a later member of the name, or this one, or what was before
later : (o : Option json.Json) (here : Option json.Json) (before between after : Option Data) → IsFound here before between
    → IsFound o between after → IsFound (tree.later_or o here) before after
unfolding IsFound
later None None before between after h k = k ∙ h
later None (Some j) before between after h k = (h.0, h.1, k ∙ h.2)
later (Some i) here before between after h k = k

here_put : (b : Bool) (name k : List ℕ) (j : json.Json) (d : Data) (found : values.Members) → bytes_eq k name ≡ b → of_json j ≡ Some d
    → IsFound (cond b (Some j) None) (find.get_member name found) (find.get_member name (put k d found))
unfolding IsFound
here_put true name k j d found e is =
    let same : k ≡ name = (bytes_decides k name).0 e in
    let P : List ℕ → Type 0 = λ n. find.get_member n (put k d found) ≡ Some d in
    (d, is, subst P same (get_member-put k d found))
here_put false name k j d found e is =
    get_member-put_other name k d found (λ same. absurd (true_false (sym ((bytes_decides k name).1 (sym same)) ∙ e)))
  where
    true_false : true ≡ false → ⊥
    true_false h = cc

pub found_in : (ms : json.Members) (name : List ℕ) (found out : values.Members) → of_members ms found ≡ Some out
    → IsFound (tree.get_member name ms) (find.get_member name found) (find.get_member name out)
unfolding IsFound
found_in json.no_members name found out e = nothing (some_equal e)
  where
    some_equal : Some found ≡ Some out → found ≡ out
    some_equal h = cc

    nothing : found ≡ out → IsFound None (find.get_member name found) (find.get_member name out)
    nothing h = ap (find.get_member name) (sym h)
found_in (json.member k j ms) name found out e = step (of_json j) refl e (λ d h. found_in ms name (put k d found) out h)
  where
    step : (o : Option Data) → of_json j ≡ o → option_and_then (λ d. of_members ms (put k d found)) o ≡ Some out
        → ((d : Data) → of_members ms (put k d found) ≡ Some out
        → IsFound (tree.get_member name ms) (find.get_member name (put k d found)) (find.get_member name out))
        → IsFound (tree.later_or (tree.get_member name ms) (cond (bytes_eq k name) (Some j) None)) (find.get_member name found)
        (find.get_member name out)
    step None is h more = absurd (cc)
    step (Some d) is h more = later (tree.get_member name ms) (cond (bytes_eq k name) (Some j) None) (find.get_member name found)
        (find.get_member name (put k d found)) (find.get_member name out) (here_put (bytes_eq k name) name k j d found refl is) (more d h)

-- ---- by the kind of a tree

made : {A : Type 0} (make : A → Data) (o : Option A) (d : Data) → option_map make o ≡ Some d → (x : A) × (o ≡ Some x) × (make x ≡ d)
made make None d h = absurd (none-some d h)
made make (Some x) d h = (x, refl, same_Some (make x) d h)

-- what holds of the trees of each kind, and of what they are read as, holds of all
pub by_kind : (P : json.Json → Data → Type 0)
    → P json.null values.null
    → ((b : Bool) → P (json.boolean b) (values.boolean b))
    → ((s : List ℕ) (n : values.Num) → number_of s ≡ Some n → P (json.number s) (values.number n))
    → ((s : List ℕ) → P (json.string s) (values.string s))
    → ((js : json.Items) (ds : values.Items) → of_items js ≡ Some ds → P (json.array js) (values.array ds))
    → ((ms : json.Members) (ns : values.Members) → of_members ms values.no_members ≡ Some ns → P (json.object ms) (values.object ns))
    → (j : json.Json) (d : Data) → of_json j ≡ Some d → P j d
by_kind P nulls booleans numbers strings arrays objects json.null d e = subst (P json.null) (same_Some values.null d e) nulls
by_kind P nulls booleans numbers strings arrays objects (json.boolean b) d e =
    subst (P (json.boolean b)) (same_Some (values.boolean b) d e) (booleans b)
by_kind P nulls booleans numbers strings arrays objects (json.number s) d e =
    let m = made values.number (number_of s) d e in subst (P (json.number s)) m.2 (numbers s m.0 m.1)
by_kind P nulls booleans numbers strings arrays objects (json.string s) d e =
    subst (P (json.string s)) (same_Some (values.string s) d e) (strings s)
by_kind P nulls booleans numbers strings arrays objects (json.array js) d e =
    let m = made values.array (of_items js) d e in subst (P (json.array js)) m.2 (arrays js m.0 m.1)
by_kind P nulls booleans numbers strings arrays objects (json.object ms) d e =
    let m = made values.object (of_members ms values.no_members) d e in subst (P (json.object ms)) m.2 (objects ms m.0 m.1)

-- the member of a name, in a tree and in the value that it is read as
pub found_at : (j : json.Json) (d : Data) (name : List ℕ) → of_json j ≡ Some d → IsFound (tree.get name j) None (find.get name d)
unfolding IsFound
found_at j d name e =
    let P : json.Json → Data → Type 0 = λ i x. IsFound (tree.get name i) None (find.get name x) in
    by_kind P refl (λ b. refl) (λ s n h. refl) (λ s. refl) (λ js ds h. refl) (λ ms ns h. found_in ms name values.no_members ns h) j d e

-- ---- what a value is

pub text_of : (j : json.Json) (d : Data) → of_json j ≡ Some d → tree.as_str j ≡ find.as_str d
text_of j d e =
    let P : json.Json → Data → Type 0 = λ i x. tree.as_str i ≡ find.as_str x in
    by_kind P refl (λ b. refl) (λ s n h. refl) (λ s. refl) (λ js ds h. refl) (λ ms ns h. refl) j d e

pub number_is : (j : json.Json) (d : Data) → of_json j ≡ Some d → option_and_then number_of (tree.as_number j) ≡ find.as_number d
number_is j d e =
    let P : json.Json → Data → Type 0 = λ i x. option_and_then number_of (tree.as_number i) ≡ find.as_number x in
    by_kind P refl (λ b. refl) (λ s n h. h) (λ s. refl) (λ js ds h. refl) (λ ms ns h. refl) j d e
