-- Halls that are drawn in turn, and the keys that are left.
use Rattle.std.proofs.Common.{ℕ, ◌≡◌, ◌<◌, ◌≤◌, ◌+◌, List, [], ◌∷◌, ◌++◌, Some, append_assoc, drop, filter, length}
use Rattle.std.proofs.Common.{length-append, map, take, refl, sym, ap, subst, ◌∙◌, arith}
use Rattle.std.specs.List.{slice_get}
use Rattle.std.proofs.lemmas.List.{drop-drop, drop_all, length-drop, length-map, map-append, take-map, take_all}
use Rattle.tag.proofs.Lists.{get_at}
use Rattle.recorder.specs.Histories.{Recorded}
use Rattle.recorder.specs.Records.{AreParts}
use Rattle.recorder.specs.declared.order.KeyOrder.{KeyOrder}
use Rattle.history_file.specs.declared.numbered_format.NumberedHistories.{NumberedHistories}
use Rattle.parallel_keys.specs.CheckedKeys.{CheckedKey, KeyParts, all_parts, is_other, other_key, recorded_key}
use Rattle.parallel_keys.specs.Histories.{AreHallParts}
use Rattle.parallel_keys.specs.KeysToCheck.{what_of}
use Rattle.parallel_keys.specs.declared.collect_keys.KeyToCheck.{KeyToCheck}
use Rattle.judged_keys.specs.Files.{HaveKeys}
use Rattle.cli.specs.declared.outcome.Found.{Found}
use Rattle.cli.specs.declared.outcome.Found.TheVariants as found
use Rattle.draw_command.specs.Making.{Adds}
use Rattle.draw_command.specs.Pages.{IsEach}
use Rattle.draw_command.specs.declared.drawn.Drawn.{Drawn}
use Rattle.markup.specs.Markup.{Markup, both, rendered}
use Rattle.draw_command.proofs.Adding.{adds_after, adds_both, adds_more, adds_none}
use Rattle.whole_pictures.specs.Together.{IsTogether, found_of_all, found_with}
use Rattle.whole_pictures.specs.WholePages.{AreFoundOf, AreOfHall, IsSectionOfHall, IsSectionOfOthers, IsWholeContent, above_sections, have_calls, have_notes}
use Rattle.whole_pictures.specs.declared.together.Together.{Together}
use Rattle.whole_pictures.proofs.Zips.{back_of, front_of, left_of, map_drop, zip_next}

-- one hall more
found_more : (f : Found) (all : List Together) (t : Together) → found_of_all f (all ++ t ∷ []) ≡ found_with (found_of_all f all) t
found_more f [] t = refl
found_more f (x ∷ xs) t = found_more (found_with f x) xs t

module _ (numbered : NumberedHistories) (drawn : Drawn) (orders : List KeyOrder) (parts : List KeyParts) (others : List CheckedKey) where
  -- the keys that are left after the first so many halls
  abbrev pub keys_left : ℕ → List CheckedKey
  keys_left n = map (recorded_key orders) (all_parts (drop n parts)) ++ others

  -- the first so many halls were drawn, and those keys are left
  pub record AreDone (n : ℕ) (left : List CheckedKey) (f : Found) (old new : List ℕ) : Type 0 where
    pub halls : List Together
    pub count : length halls ≡ n
    pub left_are : left ≡ keys_left n
    pub found_are : AreFoundOf drawn.selection.judged orders (take n parts) halls
    pub found_is : f ≡ found_of_all found.Good halls
    pub added : Adds (IsEach (IsSectionOfHall numbered drawn) 0 halls) old new

  pub none_done : (left : List CheckedKey) (page : List ℕ) → left ≡ map (recorded_key orders) (all_parts parts) ++ others
      → AreDone 0 left found.Good page page
  none_done left page are = record { halls = []; count = refl; left_are = are; found_are = tt; found_is = refl; added = adds_none (IsSectionOfHall numbered drawn) page }

  -- the keys of the next hall, and then the others
  next_keys : (n : ℕ) (own : KeyParts) → slice_get parts n ≡ Some own → keys_left n ≡ map (recorded_key orders) own ++ keys_left (n + 1)
  next_keys n own at =
      let split : all_parts (drop n parts) ≡ own ++ all_parts (drop (n + 1) parts) = ap all_parts (left_of parts n own at) in
      ap (λ (es : KeyParts). map (recorded_key orders) es ++ others) split
      ∙ ap (λ (ks : List CheckedKey). ks ++ others) (map-append (recorded_key orders) own (all_parts (drop (n + 1) parts)))
      ∙ append_assoc (map (recorded_key orders) own) (map (recorded_key orders) (all_parts (drop (n + 1) parts))) others

  module _ (n : ℕ) (own : KeyParts) (left : List CheckedKey) (f : Found) (old mid : List ℕ) (at : slice_get parts n ≡ Some own) (done : AreDone n left f old mid) where
    split_so : left ≡ map (recorded_key orders) own ++ keys_left (n + 1)
    split_so = done.left_are ∙ next_keys n own at

    as_many : length own ≡ length (map (recorded_key orders) own)
    as_many = sym (length-map own (recorded_key orders))

    -- the hall's keys stand first
    pub front_keys : take (length own) left ≡ map (recorded_key orders) own
    front_keys = ap (λ (k : ℕ). take k left) as_many ∙ ap (take (length (map (recorded_key orders) own))) split_so
        ∙ front_of (map (recorded_key orders) own) (keys_left (n + 1))

    pub back_keys : drop (length own) left ≡ keys_left (n + 1)
    back_keys = ap (λ (k : ℕ). drop k left) as_many ∙ ap (drop (length (map (recorded_key orders) own))) split_so
        ∙ back_of (map (recorded_key orders) own) (keys_left (n + 1))

    -- there are as many
    pub enough_keys : length own ≤ length left
    enough_keys = let long : length left ≡ length (map (recorded_key orders) own) + length (keys_left (n + 1)) = ap length split_so
        ∙ length-append (map (recorded_key orders) own) (keys_left (n + 1)) in
        omega (arith, as_many, long)

    -- one hall more
    pub one_done : (keys rest : List CheckedKey) (t : Together) (new : List ℕ) → keys ≡ map (recorded_key orders) own
        → rest ≡ keys_left (n + 1)
        → IsTogether drawn.selection.judged keys t → Adds (IsSectionOfHall numbered drawn n t) mid new
        → AreDone (n + 1) rest (found_with f t) old new
    one_done keys rest t new keys_are rest_are is added = record {
      halls = done.halls ++ t ∷ [];
      count = length-append done.halls (t ∷ []) ∙ ap (λ (k : ℕ). k + 1) done.count;
      left_are = rest_are;
      found_are =
          let R = λ (es : KeyParts) (u : Together). IsTogether drawn.selection.judged (map (recorded_key orders) es) u in
          let here = subst (λ (ks : List CheckedKey). IsTogether drawn.selection.judged ks t) keys_are is in
          zip_next R parts done.halls n own t at done.found_are here;
      found_is = ap (λ (g : Found). found_with g t) done.found_is ∙ sym (found_more found.Good done.halls t);
      added = adds_more (IsSectionOfHall numbered drawn) done.halls (done.halls ++ t ∷ []) t old mid new n refl (sym done.count) done.added added;
    }

  -- all halls were drawn
  pub others_left : (n : ℕ) (left : List CheckedKey) (f : Found) (old new : List ℕ) → length parts ≤ n → AreDone n left f old new
      → left ≡ others
  others_left n left f old new all done = done.left_are
      ∙ ap (λ (ps : List KeyParts). map (recorded_key orders) (all_parts ps) ++ others) (drop_all n parts all)

  pub all_found : (n : ℕ) (left : List CheckedKey) (f : Found) (old new : List ℕ) → length parts ≤ n → (done : AreDone n left f old new)
      → AreFoundOf drawn.selection.judged orders parts done.halls
  all_found n left f old new all done = subst (λ (ps : List KeyParts). AreFoundOf drawn.selection.judged orders ps done.halls) (take_all n parts all) done.found_are

-- the first so many halls of these keys were drawn
pub record IsUnderWay (numbered : NumberedHistories) (drawn : Drawn) (checked : List CheckedKey) (n : ℕ) (left : List CheckedKey) (f : Found) (old new : List ℕ) : Type 0 where
  pub orders : List KeyOrder
  pub parts : List KeyParts
  pub recorded : AreHallParts numbered.histories.halls parts
  pub others : List CheckedKey
  pub split : checked ≡ map (recorded_key orders) (all_parts parts) ++ others
  pub done : AreDone numbered drawn orders parts others n left f old new

module _ (numbered : NumberedHistories) (drawn : Drawn) (checked : List CheckedKey) where
  pub begun : (orders : List KeyOrder) (page : List ℕ) → HaveKeys numbered.histories orders checked
      → IsUnderWay numbered drawn checked 0 checked found.Good page page
  begun orders page have =
      let parts = have.parts in
      let others = map other_key (filter (is_other (all_parts parts)) orders) in
      record {
        orders = orders;
        parts = parts;
        recorded = have.recorded;
        others = others;
        split = have.are;
        done = none_done numbered drawn orders parts others checked page have.are;
      }

  -- the keys of the next hall, of which there are so many, and those after them
  module _ (n count : ℕ) (keys : List KeyToCheck) (f : Found) (old mid : List ℕ) (way : IsUnderWay numbered drawn checked n (map what_of keys) f old mid) (below : n < length numbered.histories.halls)
      (counts : (history : Recorded) (parts : KeyParts) → slice_get numbered.histories.halls n ≡ Some history → AreParts history.rows parts → count ≡ length parts) where
    -- the hall's history and its parts
    hall : (history : Recorded) × (slice_get numbered.histories.halls n ≡ Some history)
    hall = get_at numbered.histories.halls n below

    own : (parts : KeyParts) × (slice_get way.parts n ≡ Some parts)
    own = get_at way.parts n (let all = way.recorded.all in omega (arith, all, below))

    are_own : AreParts hall.0.rows own.0
    are_own = way.recorded.each n hall.0 own.0 hall.1 own.1

    as_counted : count ≡ length own.0
    as_counted = counts hall.0 own.0 hall.1 are_own

    pub enough : count ≤ length keys
    enough =
        let long = length-map keys what_of in
        let most = enough_keys numbered drawn way.orders way.parts way.others n own.0 (map what_of keys) f old mid own.1 way.done in
        omega (arith, as_counted, long, most)

    own_keys_are : (own_keys : List KeyToCheck) → own_keys ≡ take count keys → map what_of own_keys ≡ map (recorded_key way.orders) own.0
    own_keys_are own_keys is =
        ap (map what_of) is ∙ sym (take-map what_of count keys) ∙ ap (λ (k : ℕ). take k (map what_of keys)) as_counted
        ∙ front_keys numbered drawn way.orders way.parts way.others n own.0 (map what_of keys) f old mid own.1 way.done

    others_are : (rest : List KeyToCheck) → rest ≡ drop count keys
        → map what_of rest ≡ keys_left numbered drawn way.orders way.parts way.others (n + 1)
    others_are rest is =
        ap (map what_of) is ∙ map_drop what_of count keys ∙ ap (λ (k : ℕ). drop k (map what_of keys)) as_counted
        ∙ back_keys numbered drawn way.orders way.parts way.others n own.0 (map what_of keys) f old mid own.1 way.done

    pub of_hall : (own_keys : List KeyToCheck) → own_keys ≡ take count keys → AreOfHall numbered n (map what_of own_keys)
    of_hall own_keys is = record { history = hall.0; recorded = hall.1; parts = own.0; are = are_own; orders = way.orders; keys = own_keys_are own_keys is }

    pub one_more : (own_keys rest : List KeyToCheck) (t : Together) (new : List ℕ) → own_keys ≡ take count keys → rest ≡ drop count keys
        → IsTogether drawn.selection.judged (map what_of own_keys) t → Adds (IsSectionOfHall numbered drawn n t) mid new
        → IsUnderWay numbered drawn checked (n + 1) (map what_of rest) (found_with f t) old new
    one_more own_keys rest t new own_is rest_is found_together added = record {
      orders = way.orders;
      parts = way.parts;
      recorded = way.recorded;
      others = way.others;
      split = way.split;
      done = one_done numbered drawn way.orders way.parts way.others n own.0 (map what_of keys) f old mid own.1 way.done (map what_of own_keys) (map what_of rest) t new
          (own_keys_are own_keys own_is) (others_are rest rest_is) found_together added;
    }

  -- the first so many halls were drawn, which have the keys before that place
  pub record IsUpTo (keys : List KeyToCheck) (n from : ℕ) (f : Found) (old new : List ℕ) : Type 0 where
    pub within : from ≤ length keys
    pub way : IsUnderWay numbered drawn checked n (map what_of (drop from keys)) f old new

  -- the keys of one hall more
  pub one_hall : (keys : List KeyToCheck) (n from count : ℕ) (f : Found) (old mid : List ℕ) (up : IsUpTo keys n from f old mid)
      → n < length numbered.histories.halls
      → ((history : Recorded) (parts : KeyParts) → slice_get numbered.histories.halls n ≡ Some history → AreParts history.rows parts → count ≡ length parts)
      → (left own_keys : List KeyToCheck) (t : Together) (new : List ℕ) → left ≡ drop from keys → own_keys ≡ take count left
      → IsTogether drawn.selection.judged (map what_of own_keys) t → Adds (IsSectionOfHall numbered drawn n t) mid new
      → IsUpTo keys (n + 1) (from + count) (found_with f t) old new
  one_hall keys n from count f old mid up below counts left own_keys t new left_is own_is found_together added =
      let rest = drop from keys in
      let most = enough n count rest f old mid up.way below counts in
      let long = length-drop from keys in
      record {
        within = let there = up.within in omega (arith, most, long, there);
        way = one_more n count rest f old mid up.way below counts own_keys (drop (from + count) keys) t new
            (own_is ∙ ap (take count) left_is) (sym (drop-drop count from keys)) found_together added;
      }

  -- the page's content: the signs' meaning, the halls' sections, and that of keys without calls
  pub content_added : (n : ℕ) (left rest : List CheckedKey) (f : Found) (t : Together) (old a mid new : List ℕ)
      → length numbered.histories.halls ≤ n → a ≡ old ++ rendered (above_sections (have_calls checked) (have_notes checked))
      → IsUnderWay numbered drawn checked n left f a mid → rest ≡ left → IsTogether drawn.selection.judged rest t
      → Adds (IsSectionOfOthers numbered t) mid new
      → Adds (IsWholeContent numbered drawn checked (found_with f t)) old new
  content_added n left rest f t old a mid new all first way rest_is found_together last =
      let parts = way.parts in
      let done = way.done in
      let over : length parts ≤ n = let count = way.recorded.all in omega (arith, count, all) in
      let same = rest_is ∙ others_left numbered drawn way.orders parts way.others n left f a mid over done in
      let IsHalls = IsEach (IsSectionOfHall numbered drawn) 0 done.halls in
      let Both = λ (m : Markup). (one : Markup) × (other : Markup) × IsHalls one × IsSectionOfOthers numbered t other × (m ≡ both one other) in
      let sections = adds_both IsHalls (IsSectionOfOthers numbered t) a mid new done.added last in
      let whole = adds_after Both (above_sections (have_calls checked) (have_notes checked)) old a new first sections in
      let m = whole.1.1 in (
        whole.0,
        record {
          orders = way.orders;
          parts = parts;
          recorded = way.recorded;
          others = way.others;
          split = way.split;
          halls = done.halls;
          found_are = all_found numbered drawn way.orders parts way.others n left f a mid over done;
          rest = t;
          rest_is = subst (λ (ks : List CheckedKey). IsTogether drawn.selection.judged ks t) same found_together;
          sections = m.0;
          drawn_are = m.2;
          last = m.1;
          last_is = m.3;
          found_is = ap (λ (g : Found). found_with g t) done.found_is ∙ sym (found_more found.Good done.halls t);
          is = whole.1.2 ∙ ap (both (above_sections (have_calls checked) (have_notes checked))) m.4;
        },
        whole.2,
      )
