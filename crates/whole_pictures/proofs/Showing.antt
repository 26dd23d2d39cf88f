-- What was found of a hall's keys can be shown, and its section is added.
use Rattle.std.proofs.Common.{ℕ, ◌≡◌, List, [], ◌∷◌, ◌++◌, None, Some, length, map, refl, subst, sym, arith}
use Rattle.std.specs.List.{AllZip, slice_get}
use Rattle.tag.proofs.Options.{none_some}
use Rattle.tag.specs.declared.numbers.OpId.{OpId}
use Rattle.recorder.specs.Records.{AreParts}
use Rattle.recorder.specs.declared.order.KeyOrder.{KeyOrder}
use Rattle.recorder.specs.declared.part.Call.{Call}
use Rattle.recorder.specs.declared.row.Row.{Row}
use Rattle.history_file.specs.declared.numbered_format.NumberedHistories.{NumberedHistories}
use Rattle.markup.specs.Markup.{rendered}
use Rattle.witness_order.specs.RecordOrders.{AreOrdersOf}
use Rattle.store_orders.specs.Turns.{AreCallsOf}
use Rattle.parallel_keys.specs.CheckedKeys.{CheckedKey, KeyParts, recorded_key}
use Rattle.scenes.proofs.ShownCalls.{places_up}
use Rattle.scenes.specs.declared.scene.Scene.{Scene}
use Rattle.call_links.specs.Ids.{bar_ids, bar_targets}
use Rattle.draw_command.specs.Pages.{showing_markup}
use Rattle.pictures.specs.Layout.{IsInOrder}
use Rattle.pictures.specs.declared.keys.CallKeys.TheVariants as keys
use Rattle.pictures.specs.declared.picture.Picture.{Picture}
use Rattle.explanations.specs.declared.hall_rows.HallRows.{HallRows}
use Rattle.judged_keys.specs.Halls.{IsHallOfKey}
use Rattle.judged_keys.specs.Judgements.{judgement_of}
use Rattle.judged_keys.specs.declared.finding.JudgedKey.{JudgedKey}
use Rattle.judged_keys.specs.declared.judged.Judged.{Judged}
use Rattle.draw_command.specs.Drawings.{IsWhy}
use Rattle.draw_command.specs.Making.{Adds}
use Rattle.draw_command.specs.declared.drawn.Drawn.{Drawn}
use Rattle.whole_pictures.specs.Together.{IsOwnOrder, IsTogether}
use Rattle.whole_pictures.specs.WholePages.{IsHall, IsPictureOfHall, IsSectionOfHall, IsSectionOfOthers, others_markup, reason_markup, section_markup}
use Rattle.whole_pictures.specs.WholeScenes.{CanBeShown, CanHavePoints, IsShownOf, IsWholeScene}
use Rattle.whole_pictures.specs.declared.together.Together.{Together}
use Rattle.whole_pictures.specs.declared.together.Together.TheVariants as together

-- orders of keys are those of their parts
orders_of : (judged : Judged) (given : List KeyOrder) (parts : KeyParts) (orders : List KeyOrder)
    → AllZip (IsOwnOrder judged) (map (recorded_key given) parts) orders → AreOrdersOf parts orders
orders_of judged given [] [] own = tt
orders_of judged given [] (order ∷ orders) own = absurd own
orders_of judged given (part ∷ parts) [] own = absurd own
orders_of judged given (part ∷ parts) (order ∷ orders) own = ((own.0.key, own.0.order), orders_of judged given parts orders own.1)

pub can_be_shown : (judged : Judged) (rows : List Row) (parts : KeyParts) (given : List KeyOrder) (checked : List CheckedKey) (t : Together)
    → AreParts rows parts
    → checked ≡ map (recorded_key given) parts → IsTogether judged checked t → CanBeShown rows t
can_be_shown judged rows parts given checked (together.Ordered orders) are keys found =
    (parts, are, orders_of judged given parts orders.items (subst (λ (ks : List CheckedKey). AllZip (IsOwnOrder judged) ks orders.items) keys found))
can_be_shown judged rows parts given checked (together.Refused key count) are keys found = found.0.found.so
can_be_shown judged rows parts given checked (together.Undecided key) are keys found = found.0.found.so

-- no call needs no point
pub no_call : (rows : List Row) (order : List OpId) → order ≡ [] → CanHavePoints rows order
no_call rows order none calls are = (
  λ i below. absurd (let empty : length order ≡ 0 = subst (λ (l : List OpId). length l ≡ 0) (sym none) refl in omega (arith, below, empty)),
  λ i j a b less at_i at_j before. none_some (subst (λ (l : List OpId). slice_get l i ≡ Some a.op) none at_i.listed),
)

pub in_order : (drawn : Drawn) (rows : List Row) (calls : List Call) (order faulty : List OpId) (scene : Scene)
    → IsWholeScene drawn rows calls order faulty scene → IsInOrder scene
in_order drawn rows calls order faulty scene is =
    record {
      ticks = is.is.ticks.rising;
      dots = places_up rows calls is.shown order is.points scene is.points_are is.is;
      gaps = is.is.gaps.rising;
    }

-- what the picture was made of makes it that of its hall
pub picture_of_hall : (numbered : NumberedHistories) (drawn : Drawn) (n : ℕ) (t : Together) (words : List ℕ) (picture : Picture)
    → (hall : HallRows) (calls : List Call) (order faulty : List OpId) (scene : Scene)
    → picture.keys ≡ keys.Recorded → picture.hall ≡ hall → picture.part.now ≡ calls → picture.scene.now ≡ scene → picture.faulty.now ≡ faulty
    → picture.ids.now ≡ bar_ids n → picture.places.now ≡ [] → picture.before ≡ None → IsHall numbered n hall → AreCallsOf hall.history.now.rows calls → IsShownOf hall t order words faulty
    → IsWholeScene drawn hall.history.now.rows calls order faulty scene → IsPictureOfHall numbered drawn n t words picture
picture_of_hall numbered drawn n t words picture hall calls order faulty scene each of_hall of_calls of_scene of_faulty ids no_places no_arrow is_hall are shown whole =
    let rows = hall.history.now.rows in
    let hall_is = sym of_hall in
    let calls_are = sym of_calls in
    let faulty_are = sym of_faulty in
    record {
      each = each;
      hall = subst (IsHall numbered n) hall_is is_hall;
      calls = subst (λ (h : HallRows). AreCallsOf h.history.now.rows picture.part.now) hall_is (subst (AreCallsOf rows) calls_are are);
      order = order;
      shown = subst (λ (h : HallRows). IsShownOf h t order words picture.faulty.now) hall_is (subst (IsShownOf hall t order words) faulty_are shown);
      scene = subst (λ (h : HallRows). IsWholeScene drawn h.history.now.rows picture.part.now order picture.faulty.now picture.scene.now) hall_is
          (subst (λ (cs : List Call). IsWholeScene drawn rows cs order picture.faulty.now picture.scene.now) calls_are
          (subst (λ (fs : List OpId). IsWholeScene drawn rows calls order fs picture.scene.now) faulty_are
          (subst (IsWholeScene drawn rows calls order faulty) (sym of_scene) whole)));
      ids = ids;
      no_places = no_places;
      no_arrow = no_arrow;
    }

-- the section of a picture: its sentences lead to its bars
pub section_added : (numbered : NumberedHistories) (drawn : Drawn) (n : ℕ) (t : Together) (words : List ℕ) (picture : Picture)
    → IsPictureOfHall numbered drawn n t words picture
    → (targets : List ℕ) (calls : List OpId) → targets ≡ bar_targets n → picture.faulty.now ≡ calls
    → (old new : List ℕ) → new ≡ old ++ rendered (section_markup n (length numbered.histories.halls) t
    (reason_markup targets calls t words) (showing_markup drawn.around picture))
    → Adds (IsSectionOfHall numbered drawn n t) old new
section_added numbered drawn n t words picture is targets calls of_hall faulty old new added =
    let section = λ (ts : List ℕ) (cs : List OpId).
    section_markup n (length numbered.histories.halls) t (reason_markup ts cs t words) (showing_markup drawn.around picture) in (
      section (bar_targets n) picture.faulty.now,
      (words, picture, is, refl),
      subst (λ (ts : List ℕ). new ≡ old ++ rendered (section ts picture.faulty.now)) of_hall
          (subst (λ (cs : List OpId). new ≡ old ++ rendered (section targets cs)) (sym faulty) added),
    )

-- the section that says why a key without calls is refused
pub others_added : (numbered : NumberedHistories) (key : JudgedKey) (count : ℕ) (hall : HallRows) (words : List ℕ) (faulty : List OpId)
    → IsHallOfKey numbered (judgement_of key).one.key hall → IsWhy hall (judgement_of key) words faulty
    → (old new : List ℕ) → new ≡ old ++ rendered (others_markup (together.Refused key count) words) → Adds (IsSectionOfOthers numbered (together.Refused key count)) old new
others_added numbered key count hall words faulty of_key why old new added =
    (others_markup (together.Refused key count) words, (hall, words, faulty, of_key, why, refl), added)
