-- A strip shows the bars whose texts stand in its rows.
use Rattle.std.proofs.Common.{ℕ, ◌≡◌, ◌≤◌, ◌-◌, true, Option, Some, None, refl, arith}
use Rattle.std.specs.List.{Contains}
use Rattle.tag.proofs.Lists.{place_of}
use Rattle.labels.specs.Strips.{shows_some, strip_of}
use Rattle.labels.proofs.Cutting.{shown_between}
use Rattle.scenes.specs.declared.scene.Bar.{Bar}
use Rattle.scenes.specs.declared.scene.Scene.{Scene}
use Rattle.pictures.specs.Layout.{IsInOrder, row_of_place, rows_up_to}
use Rattle.pictures.specs.Paper.{CanSayAt, end_row, shows_bar}
use Rattle.pictures.proofs.Rows.{places_rise, tick_up_to}

-- a row that isn't above that of the begin, and not below the last one
module _ (scene : Scene) (ordered : IsInOrder scene) (begins place : ℕ) (begun : begins ≤ place) where
  between : (answered ends : Option ℕ) → Contains scene.ticks.items place → ((answer : ℕ) → answered ≡ Some answer → place ≤ answer)
      → ((end : ℕ) → ends ≡ Some end → place ≤ end)
      → shows_some (strip_of (row_of_place scene place)) (row_of_place scene begins) (end_row scene answered ends) ≡ true
  between None None tick before lasting =
      shown_between (row_of_place scene begins) None (row_of_place scene place) (places_rise scene ordered begins place begun)
  between None (Some end) tick before lasting =
      let at = place_of scene.ticks.items place tick in
      let within = tick_up_to scene ordered at.0 place end at.1 (lasting end refl) in
      shown_between (row_of_place scene begins) (Some (rows_up_to scene end - 1)) (row_of_place scene place)
      (places_rise scene ordered begins place begun) (omega (arith, within))
  between (Some answer) ends tick before lasting =
      shown_between (row_of_place scene begins) (Some (row_of_place scene answer)) (row_of_place scene place)
      (places_rise scene ordered begins place begun) (places_rise scene ordered place answer (before answer refl))

pub shown_with_texts : (scene : Scene) (bar : Bar) (place : ℕ) → IsInOrder scene → CanSayAt scene bar place
    → shows_bar scene (strip_of (row_of_place scene place)) bar ≡ true
shown_with_texts scene bar place ordered can =
    between scene ordered bar.begins place can.begun bar.answered bar.ends can.tick can.unanswered can.lasting
