use Rattle.std.proofs.Common.{ap, refl, ◌∙◌}
use Rattle.network.specs.declared.messages.Message.{Message}
use Rattle.message_scenes.specs.declared.arrows.ArrowEnd.{ArrowEnd}
use Rattle.diagram_places.specs.Ways.{client_side, end_x, end_y, is_request, replica_side}
use Rattle.std.specs.Prelude.{cond}
use Rattle.diagram_places.proofs.laws.an_arrow_goes_from_row_to_row.Goals as goal

pub returns : goal.returns
returns c = λ scene arrow.
    let from = λ (m : Message). cond (is_request m) (client_side scene arrow) (replica_side scene arrow) in
    let to = λ (m : Message). cond (is_request m) (replica_side scene arrow) (client_side scene arrow) in
    record {
      begins = refl;
      arrives = λ row is. ap (λ (e : ArrowEnd). end_y arrow.begins e) is;
      stale = λ row is. (ap (λ (e : ArrowEnd). end_y arrow.begins e) is, ap (λ (e : ArrowEnd). end_x scene e arrow) is);
      lost = λ row is. ap (λ (e : ArrowEnd). end_y arrow.begins e) is;
      request = λ row replica request is sent. (ap from sent, ap (λ (e : ArrowEnd). end_x scene e arrow) is ∙ ap to sent);
      reply = λ row name reply is sent. (ap from sent, ap (λ (e : ArrowEnd). end_x scene e arrow) is ∙ ap to sent);
    }
