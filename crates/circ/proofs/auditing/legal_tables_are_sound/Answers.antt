use Rattle.circ.proofs.SoundClaims.{claimed-once}
use Rattle.circ.proofs.SoundBindings.{rightly-bound}
use Rattle.circ.proofs.SoundBalances.{balanced}
use Rattle.circ.proofs.SoundReferences.{referred, numbered, distinct}
use Rattle.circ.proofs.auditing.legal_tables_are_sound.Goals as goal

pub returns : goal.returns
returns c H rows legal forms are = record {
  laws = record {
    claims = claimed-once H rows legal are;
    bindings = rightly-bound H rows legal forms are;
    balance = balanced H rows legal are;
    references = referred H rows legal forms are;
    numbers = numbered H rows legal forms are;
  };
  barcodes = distinct H rows legal forms are;
}
