use Rattle.terms.proofs.KeyLemmas.{clerk_keys-same, clerk_key-not-outside}
use Rattle.terms.proofs.laws.clerk_keys_differ.Goals as goal

pub returns : goal.returns
returns c = record {
  same = clerk_keys-same;
  apart = clerk_key-not-outside;
}
