use Rattle.ak_transfer_laws.proofs.Running.{upload_faultless, upload_lossy}
use Rattle.ak_transfer_laws.proofs.completeness.uploads_complete.Goals as goal

pub returns : goal.returns
returns g c = record {
  faultless = λ spares host d account status before after old new it sound room ends calm. upload_faultless host d account status before after old new it spares sound room ends calm;
  lossy = λ spares host d account status before after old new it sound room ends. upload_lossy host d account status before after old new it spares sound room ends;
}
