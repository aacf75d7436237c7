use Rattle.forms_model.specs.Operations.{operation_at}
use Rattle.forms_model.proofs.ReadBack.{operation_reads_back, reads_back_alone}
use Rattle.forms.proofs.read_back.operations_read_back.Goals as goal

pub returns : goal.returns
returns g c =
    let back = operation_reads_back g.T.Key.Text.bytes g.T.Element.Text.bytes g.T.Trade.rules g.met.T.Trade.keys_back g.met.T.Trade.elements_back in
    record { anywhere = back; alone = reads_back_alone _ (operation_at g.T.Trade.rules) back }
