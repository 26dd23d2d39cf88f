-- The greatest tag of the calls that were answered before each call.
use Rattle.std.proofs.Common.{ℕ, ◌≡◌, ◌<◌, ◌≤◌, ◌+◌, ◌-◌, ◌↔◌, ◌⊎◌, inl, inr, List, Option, Some, None, length, length-set, set, get_or, refl, ap, sym, ◌∙◌, subst, arith}
use Rattle.std.specs.List.{slice_get}
use Rattle.std.proofs.lemmas.Bool.{cases_lt}
use Rattle.std.proofs.lemmas.Option.{none-some, same_Some, slice_get_within}
use Rattle.tag.specs.Tags.{Tag, IsBelow}
use Rattle.recorder.specs.declared.part.Call.{Call}
use Rattle.recorder.specs.declared.part.Response.{Response}
use Rattle.recorder.specs.Parts.{IsSequence}
use Rattle.recorder.specs.States.{place_in}
use Rattle.tag.proofs.Lists.{place_of, Contains-slice_get, get_at, item_at, slice_get-set}
use Rattle.tag_check.specs.Least.{HasPartner}
use Rattle.tag_check.specs.Rules.{IsNotAbove, IsTooLow}
use Rattle.tag_check.specs.Greatest.{IsAtMost, IsGreatest, IsAnsweredBefore, HasTagBelow, AreAnsweredTags, Falls}
use Rattle.tag_check.proofs.TagOrder.{at_most_trans, below_at_most}

-- the invocations of a part rise
invoked_rise : (calls : List Call) → IsSequence calls → (i j : ℕ) (a b : Call) → i ≤ j → slice_get calls i ≡ Some a → slice_get calls j ≡ Some b → a.invoked ≤ b.invoked
invoked_rise calls sequence i j a b le at_i at_j =
    elim (cases_lt i j) [
      | inl h ↦ let up : a.invoked < b.invoked = sequence.places i j a b h at_i at_j in omega arith
      | inr h ↦
          let same : i ≡ j = omega arith in
          let at : slice_get calls i ≡ slice_get calls j = ap (slice_get calls) same in
          let one : a ≡ b = cc (at_i, at_j, at) in
          let place : a.invoked ≡ b.invoked = ap (λ (x : Call). x.invoked) one in
          omega arith
    ]

-- what the call in the middle says of those before it, or of those after it
module _ (calls : List Call) (sequence : IsSequence calls) (place middle : ℕ) (call : Call) (at : slice_get calls middle ≡ Some call) where
  pub begun_to : call.invoked ≤ place → (j : ℕ) (b : Call) → j ≤ middle → slice_get calls j ≡ Some b → b.invoked ≤ place
  begun_to le j b before at_j = let low : b.invoked ≤ call.invoked = invoked_rise calls sequence j middle b call before at_j at in omega arith

  pub later_from : place < call.invoked → (j : ℕ) (b : Call) → middle ≤ j → slice_get calls j ≡ Some b → place < b.invoked
  later_from more j b after at_j = let high : call.invoked ≤ b.invoked = invoked_rise calls sequence middle j call b after at at_j in omega arith

-- of the calls from low on and below high those below n began by the place, and no others
pub begun_between : (calls : List Call) (place low high n : ℕ) → ((j : ℕ) (b : Call) → j < n → low ≤ j → slice_get calls j ≡ Some b → b.invoked ≤ place)
    → ((j : ℕ) (b : Call) → n ≤ j → j < high → slice_get calls j ≡ Some b → place < b.invoked) → (j : ℕ) (b : Call) → low ≤ j → j < high → slice_get calls j ≡ Some b → (j < n) ↔ (b.invoked ≤ place)
begun_between calls place low high n begun later j b above below at = (
  λ less. begun j b less above at,
  λ le. elim (cases_lt j n) [ inl h ↦ h | inr h ↦ (let more : place < b.invoked = later j b h below at in absurd (omega arith)) ],
)

-- all calls below the second of two neighbours began by the place, and no others
pub begun_beside : (calls : List Call) → IsSequence calls → (place n : ℕ) (a b : Call) → 1 ≤ n → slice_get calls (n - 1) ≡ Some a → slice_get calls n ≡ Some b → a.invoked ≤ place → place < b.invoked
    → (j : ℕ) (call : Call) → slice_get calls j ≡ Some call → (j < n) ↔ (call.invoked ≤ place)
begun_beside calls sequence place n a b one at_a at_b le more j call at = (
  λ less. begun_to calls sequence place (n - 1) a at_a le j call (omega arith) at,
  λ low. elim (cases_lt j n) [ inl h ↦ h | inr h ↦ (let high : place < call.invoked = later_from calls sequence place n b at_b more j call h at in absurd (omega arith)) ],
)

-- where a tag has the property there is a greatest one, which is no lower
greatest_has : (T : Tag → Type 0) (greatest : Option Tag) → IsGreatest T greatest → (tag : Tag) → T tag → (top : Tag) × (greatest ≡ Some top) × IsAtMost tag top
greatest_has T None h tag has = absurd (h tag has)
greatest_has T (Some top) h tag has = (top, refl, h.1 tag has)

greatest_is : (T : Tag → Type 0) (greatest : Option Tag) (tag : Tag) → IsGreatest T greatest → greatest ≡ Some tag → T tag
greatest_is T greatest tag h e = (subst (IsGreatest T) e h).0

-- what is among the first tags is among more
among_more : (tags : List (Option Tag)) (i j : ℕ) (tag : Tag) → i ≤ j → HasTagBelow tags i tag → HasTagBelow tags j tag
among_more tags i j tag le h = (h.0, omega (arith, h.1), h.2)

-- a response has its place
pub response_at : (response : Option Response) (place : ℕ) → place_in response ≡ Some place → (r : Response) × (response ≡ Some r) × (r.place ≡ place)
response_at None place e = absurd (none-some place e)
response_at (Some r) place e = (r, refl, same_Some r.place place e)

-- a call without a response, or after which no call began, adds none
pub answered_same : (calls : List Call) (i : ℕ) (call : Call) (tags : List (Option Tag)) → slice_get calls i ≡ Some call → ((response : Response) (j : ℕ) (b : Call) → call.response ≡ Some response → slice_get calls j ≡ Some b → response.place < b.invoked → ⊥) → AreAnsweredTags calls i tags → AreAnsweredTags calls (i + 1) tags
answered_same calls i call tags at none are = record {
  all = are.all;
  real = are.real;
  covered = λ m j a b response tag less at_m at_j noted responds before. elim (cases_lt m i) [
    | inl h ↦ are.covered m j a b response tag h at_m at_j noted responds before
    | inr h ↦
        let here : m ≡ i = omega arith in
        let one : a ≡ call = same_Some a call (sym at_m ∙ (ap (slice_get calls) here ∙ at)) in
        let has : call.response ≡ Some response = ap (λ (x : Call). x.response) (sym one) ∙ responds in
        absurd (none response j b has at_j before)
  ];
}

-- the tag of a call that was answered before the call at index `next` began, and after those before it did
module _ (calls : List Call) (i next : ℕ) (call : Call) (response : Response) (tags : List (Option Tag)) (old new : Option Tag) (at : slice_get calls i ≡ Some call) (responds : call.response ≡ Some response)
    (begun : (j : ℕ) (b : Call) → slice_get calls j ≡ Some b → (j < next) ↔ (b.invoked ≤ response.place)) (within : next < length tags) (was : slice_get tags next ≡ Some old) (greatest : IsGreatest (λ tag. (old ≡ Some tag) ⊎ (call.note ≡ Some tag)) new) where
  at_next : slice_get (set tags next new) next ≡ Some new
  at_next = elim (slice_get-set tags next next new within) [ inl w ↦ w.1 | inr w ↦ absurd (w.0 refl) ]

  -- a tag that is no lower than one that was there, or than the call's own, stands there
  risen : (j : ℕ) (tag : Tag) → next ≤ j → (old ≡ Some tag) ⊎ (call.note ≡ Some tag) → (other : Tag) × HasTagBelow (set tags next new) (j + 1) other × IsAtMost tag other
  risen j tag le has =
      let top = greatest_has (λ tag. (old ≡ Some tag) ⊎ (call.note ≡ Some tag)) new greatest tag has in
      (top.0, (next, omega arith, at_next ∙ ap Some top.1), top.2)

  still : (j : ℕ) (tag : Tag) → HasTagBelow tags (j + 1) tag → (other : Tag) × HasTagBelow (set tags next new) (j + 1) other × IsAtMost tag other
  still j tag among = elim (slice_get-set tags next among.0 new within) [
    | inl w ↦
        let had : old ≡ Some tag = same_Some old (Some tag) (sym was ∙ (ap (slice_get tags) (sym w.0) ∙ among.2)) in
        risen j tag (omega (arith, w.0, among.1)) (inl had)
    | inr w ↦ (tag, (among.0, among.1, w.1 ∙ among.2), inr refl)
  ]

  real_more : AreAnsweredTags calls i tags → (k : ℕ) (b : Call) (tag : Tag) → slice_get calls k ≡ Some b → slice_get (set tags next new) k ≡ Some (Some tag) → IsAnsweredBefore calls b.invoked tag
  real_more are k b tag at_k has = elim (slice_get-set tags next k new within) [
    | inl w ↦
        let top : new ≡ Some tag = same_Some new (Some tag) (sym w.1 ∙ has) in
        elim (greatest_is (λ tag. (old ≡ Some tag) ⊎ (call.note ≡ Some tag)) new tag greatest top) [
          | inl had ↦ are.real k b tag at_k (ap (slice_get tags) w.0 ∙ (was ∙ ap Some had))
          | inr noted ↦ record {
            call = call;
            response = response;
            recorded = Contains-slice_get calls i call at;
            noted = noted;
            responds = responds;
            before = elim (cases_lt response.place b.invoked) [ inl h ↦ h | inr h ↦ (let less : k < next = (begun k b at_k).1 h in absurd (omega (arith, w.0))) ];
          }
        ]
    | inr w ↦ are.real k b tag at_k (sym w.1 ∙ has)
  ]

  pub answered_more : AreAnsweredTags calls i tags → AreAnsweredTags calls (i + 1) (set tags next new)
  answered_more are = record {
    all = length-set tags next new ∙ are.all;
    real = real_more are;
    covered = λ m j a b response_a tag less at_m at_j noted responds_a before. elim (cases_lt m i) [
      | inl h ↦
          let was = are.covered m j a b response_a tag h at_m at_j noted responds_a before in
          let now = still j was.0 was.1 in
          (now.0, now.1, at_most_trans tag was.0 now.0 was.2 now.2)
      | inr h ↦
          let here : m ≡ i = omega arith in
          let one : a ≡ call = same_Some a call (sym at_m ∙ (ap (slice_get calls) here ∙ at)) in
          let own : call.note ≡ Some tag = ap (λ (x : Call). x.note) (sym one) ∙ noted in
          let same : response_a ≡ response = same_Some response_a response (sym responds_a ∙ (ap (λ (x : Call). x.response) one ∙ responds)) in
          let place : response_a.place ≡ response.place = ap (λ (x : Response). x.place) same in
          elim (cases_lt j next) [
            | inl g ↦ let le : b.invoked ≤ response.place = (begun j b at_j).0 g in absurd (omega arith)
            | inr g ↦ risen j tag g (inr own)
          ]
    ];
  }

-- the greatest of one tag more
pub greatest_more : (tags : List (Option Tag)) (j : ℕ) (here g new : Option Tag) → slice_get tags j ≡ Some here → IsGreatest (HasTagBelow tags j) g → IsGreatest (λ tag. (g ≡ Some tag) ⊎ (here ≡ Some tag)) new → IsGreatest (HasTagBelow tags (j + 1)) new
greatest_more tags j here g new at before greatest = more new greatest under
  where
    -- a tag among one more is no greater than the new one
    under : (tag : Tag) → HasTagBelow tags (j + 1) tag → (top : Tag) × (new ≡ Some top) × IsAtMost tag top
    under tag among = elim (cases_lt among.0 j) [
      | inl h ↦
          let top = greatest_has (HasTagBelow tags j) g before tag (among.0, h, among.2) in
          let up = greatest_has (λ tag. (g ≡ Some tag) ⊎ (here ≡ Some tag)) new greatest top.0 (inl top.1) in
          (up.0, up.1, at_most_trans tag top.0 up.0 top.2 up.2)
      | inr h ↦
          let same : among.0 ≡ j = omega (arith, among.1) in
          let own : here ≡ Some tag = same_Some here (Some tag) (sym at ∙ (ap (slice_get tags) (sym same) ∙ among.2)) in
          greatest_has (λ tag. (g ≡ Some tag) ⊎ (here ≡ Some tag)) new greatest tag (inr own)
    ]

    among : (tag : Tag) → (g ≡ Some tag) ⊎ (here ≡ Some tag) → HasTagBelow tags (j + 1) tag
    among tag (inl e) = among_more tags j (j + 1) tag (omega arith) (greatest_is (HasTagBelow tags j) g tag before e)
    among tag (inr e) = (j, omega arith, at ∙ ap Some e)

    more : (n : Option Tag) → IsGreatest (λ tag. (g ≡ Some tag) ⊎ (here ≡ Some tag)) n → ((tag : Tag) → HasTagBelow tags (j + 1) tag → (top : Tag) × (n ≡ Some top) × IsAtMost tag top) → IsGreatest (HasTagBelow tags (j + 1)) n
    more None h up = λ tag has. let u = up tag has in none-some u.0 u.1
    more (Some top) h up = (among top h.0, λ tag has. let u = up tag has in subst (IsAtMost tag) (sym (same_Some top u.0 u.1)) u.2)

-- the call at a place, and the greatest tag up to it
pub record IsReadAt (calls : List Call) (tags : List (Option Tag)) (j : ℕ) (call : Call) (greatest : Option Tag) : Type 0 where
  pub at : slice_get calls j ≡ Some call
  pub top : IsGreatest (HasTagBelow tags (j + 1)) greatest

pub read_at : (calls : List Call) (tags : List (Option Tag)) (j : ℕ) (call : Call) (here before greatest : Option Tag) → AreAnsweredTags calls (length calls) tags
    → slice_get calls j ≡ Some call → here ≡ get_or tags j here → IsGreatest (HasTagBelow tags j) before
    → IsGreatest (λ tag. (before ≡ Some tag) ⊎ (here ≡ Some tag)) greatest → IsReadAt calls tags j call greatest
read_at calls tags j call here before greatest are at here_is top more = record {
  at = at;
  top = greatest_more tags j here before greatest (item_at tags j here (omega (arith, slice_get_within calls j call at, are.all)) here_is) top more;
}

module _ (calls : List Call) (tags : List (Option Tag)) (j : ℕ) (call : Call) (greatest : Option Tag) (at : slice_get calls j ≡ Some call) (are : AreAnsweredTags calls (length calls) tags) (top : IsGreatest (HasTagBelow tags (j + 1)) greatest) where
  -- a call that falls has a call that it isn't above
  pub falls_here : IsSequence calls → Falls call greatest → HasPartner calls IsNotAbove call
  falls_here sequence falls =
      let s = falls.0 in
      let among = greatest_is (HasTagBelow tags (j + 1)) greatest s top falls.2 in
      let small : among.0 < length calls = omega (arith, slice_get_within tags among.0 (Some s) among.2, are.all) in
      let b = get_at calls among.0 small in
      let before = are.real among.0 b.0 s b.1 among.2 in
      let le : b.0.invoked ≤ call.invoked = invoked_rise calls sequence among.0 j b.0 call (omega (arith, among.1)) b.1 at in (
        before.call,
        before.recorded,
        record {
          s = s;
          t = falls.1;
          precedes = (before.response, before.responds, omega (arith, before.before));
          first = before.noted;
          second = falls.3;
          low = falls.4;
        },
      )

  -- a call that doesn't fall has none
  pub none_above : (Falls call greatest → ⊥) → HasPartner calls IsNotAbove call → ⊥
  none_above no_fall found =
      let broken = found.2 in
      let m = place_of calls found.0 found.1 in
      let covered = are.covered m.0 j found.0 call broken.precedes.0 broken.s (slice_get_within calls m.0 found.0 m.1) m.1 at broken.first broken.precedes.1 broken.precedes.2 in
      let up = greatest_has (HasTagBelow tags (j + 1)) greatest top covered.0 covered.1 in
      let le : IsAtMost broken.s up.0 = at_most_trans broken.s covered.0 up.0 covered.2 up.2 in
      no_fall (up.0, broken.t, up.1, broken.second, lower call broken.t broken.s up.0 broken.low le)
    where
      lower : (later : Call) (t s u : Tag) → IsTooLow later t s → IsAtMost s u → IsTooLow later t u
      lower later t s u (inl below) le = inl (below_at_most t s u below le)
      lower later t s u (inr w) (inl less) = inl (subst (λ (x : Tag). IsBelow x u) w.1 less)
      lower later t s u (inr w) (inr e) = inr (w.0, sym e ∙ w.1)
