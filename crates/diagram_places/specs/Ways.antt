-- From where to where an arrow of a diagram goes: from the row where a copy of a message is sent to
-- the row where it arrives or is lost, and from the lifeline of its sender towards that of its
-- receiver.
use Rattle.std.specs.Prelude.{ℕ, ◌≡◌, ◌+◌, ◌-◌, ◌/◌, max, Bool, true, false, if◌then◌else◌}
use Rattle.labels.specs.declared.labels.Way.{Way}
use Rattle.labels.specs.Places.{IsNear}
use Rattle.replica.specs.declared.requests.Request.{Request}
use Rattle.replica.specs.declared.replies.Reply.{Reply}
use Rattle.network.specs.declared.messages.Message.{Message}
use Rattle.network.specs.declared.messages.Message.TheVariants.{ToClient, ToReplica}
use Rattle.message_scenes.specs.declared.arrows.Arrow.{Arrow}
use Rattle.message_scenes.specs.declared.arrows.ArrowEnd.{ArrowEnd}
use Rattle.message_scenes.specs.declared.arrows.ArrowEnd.TheVariants as ending
use Rattle.message_scenes.specs.declared.scene.MessageScene.{MessageScene}
use Rattle.diagram_places.specs.declared.sizes.TheConstants.{CLIENT_EDGE, CLIENT_WAIT, MOMENT}
use Rattle.diagram_places.specs.declared.sizes.TheConstants.{NEAREST, REPLICA_EDGE, REPLICA_WAIT}
use Rattle.diagram_places.specs.declared.sizes.TheConstants.{ROW, STUB}
use Rattle.diagram_places.specs.Layout.{client_x, down, replica_x}

-- whether a message is a request, which a client sends to a replica; else it is a reply
abbrev pub is_request : Message → Bool
is_request (ToReplica replica request) = true
is_request (ToClient name reply) = false

-- it ends in the row in which it arrives or is lost; one that never arrives is a stub below the row
-- where it begins
abbrev pub end_y : ℕ → ArrowEnd → ℕ
end_y begins (ending.Arrives row) = down MOMENT row
end_y begins (ending.Stale row) = down MOMENT row
end_y begins (ending.Lost row) = down MOMENT row
end_y begins ending.Open = down STUB begins

-- no end of the line stands farther than FARTHEST
pub record IsNearWay (way : Way) : Type 0 where
  pub x1 : IsNear way.x1
  pub y1 : IsNear way.y1
  pub x2 : IsNear way.x2
  pub y2 : IsNear way.y2

-- how far from its begin an arrow comes halfway to the next row
abbrev pub label_distance : Way → ℕ
label_distance way =
    max ((way.x2 - way.x1 + (way.x1 - way.x2)) / 2 / max ((way.y2 - way.y1) / ROW) 1) NEAREST

-- the middle of what an arrow asks or tells: there, and not too near to its begin
abbrev pub label_x : Bool → Way → ℕ
label_x request way =
    if request then way.x1 + label_distance way else way.x1 - label_distance way

module _ (scene : MessageScene) where
  -- the lifeline of an arrow's client
  abbrev pub client_side : Arrow → ℕ
  client_side arrow = client_x scene CLIENT_EDGE arrow.client

  -- that of its replica
  abbrev pub replica_side : Arrow → ℕ
  replica_side arrow = replica_x scene REPLICA_EDGE arrow.replica

  -- an arrow begins at the lifeline of its sender
  abbrev pub sender_x : Arrow → ℕ
  sender_x arrow =
      if is_request arrow.message then client_side arrow else replica_side arrow

  -- its receiver's lifeline
  abbrev pub receiver_x : Arrow → ℕ
  receiver_x arrow =
      if is_request arrow.message then replica_side arrow else client_side arrow

  -- halfway between these lifelines
  abbrev pub halfway : Arrow → ℕ
  halfway arrow = (client_side arrow + replica_side arrow) / 2

  -- a little way from the lifeline of its sender towards the other
  abbrev pub waiting_x : Arrow → ℕ
  waiting_x arrow = if is_request arrow.message then client_x scene CLIENT_WAIT arrow.client
      else replica_x scene REPLICA_WAIT arrow.replica

  -- it ends at the lifeline of its receiver if it arrives, halfway if it is lost, and near its
  -- sender if it never arrives
  abbrev pub end_x : ArrowEnd → Arrow → ℕ
  end_x (ending.Arrives row) arrow = receiver_x arrow
  end_x (ending.Stale row) arrow = receiver_x arrow
  end_x (ending.Lost row) arrow = halfway arrow
  end_x ending.Open arrow = waiting_x arrow

  -- from where to where an arrow goes
  abbrev pub way_of : Arrow → Way
  way_of arrow = record {
    x1 = sender_x arrow;
    y1 = down MOMENT arrow.begins;
    x2 = end_x arrow.end arrow;
    y2 = end_y arrow.begins arrow.end;
  }

-- an arrow's line begins in the row where its copy is sent, at the lifeline of its sender; if the
-- copy arrives, it ends in the row where it does, at the lifeline of its receiver, a stale reply
-- too; and if it is lost, it ends in the row where it is
pub record GoesFromRowToRow (scene : MessageScene) (arrow : Arrow) : Type 0 where
  pub begins : (way_of scene arrow).y1 ≡ down MOMENT arrow.begins
  pub arrives : (row : ℕ) → arrow.end ≡ ending.Arrives row
      → (way_of scene arrow).y2 ≡ down MOMENT row
  pub stale : (row : ℕ) → arrow.end ≡ ending.Stale row
      → (way_of scene arrow).y2 ≡ down MOMENT row
      × (way_of scene arrow).x2 ≡ receiver_x scene arrow
  pub lost : (row : ℕ) → arrow.end ≡ ending.Lost row
      → (way_of scene arrow).y2 ≡ down MOMENT row
  pub request : (row replica : ℕ) (request : Request) → arrow.end ≡ ending.Arrives row
      → arrow.message ≡ ToReplica replica request
      → (way_of scene arrow).x1 ≡ client_side scene arrow
      × (way_of scene arrow).x2 ≡ replica_side scene arrow
  pub reply : (row name : ℕ) (reply : Reply) → arrow.end ≡ ending.Arrives row
      → arrow.message ≡ ToClient name reply
      → (way_of scene arrow).x1 ≡ replica_side scene arrow
      × (way_of scene arrow).x2 ≡ client_side scene arrow
