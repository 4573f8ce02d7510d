-- From the kinds of refusals of a call of the transactions to those of its line.
use Rattle.std.proofs.Common.{◌≡◌, Bool, true, false, IfOk}
use Rattle.plan_lang.specs.declared.lines.Line.{Line}
use Rattle.tmf_core.specs.declared.fault.TmfFault.{TmfFault}
use Rattle.tmf_core.specs.declared.fault.TmfFault.TheVariants as tmf
use Rattle.tmf_core.specs.Answers.{says_down}
use Rattle.tmf_core.specs.Refusals as ours
use Rattle.rdf_core.specs.declared.replies.NoWhy.{NoWhy}
use Rattle.rdf_core.specs.declared.replies.NoWhy.TheVariants as no
use Rattle.rdf_primary.specs.Replies.{refused}
use Rattle.rdf_primary.specs.Kinds.{IsOfPlace, MayRefuse, MayAnswer}

not_down : true ≡ false → ⊥
not_down e = cc

-- a primary that is up answers so
module _ (l : Line) where
  pub place_kinds : (needs : Bool) → ((word : NoWhy) → IsOfPlace needs word → MayRefuse l word) → (w : TmfFault) → says_down w ≡ false → ours.IsOfPlace needs w → IfOk (refused w) (λ reply. MayAnswer l reply)
  place_kinds needs may tmf.Down e h = absurd (not_down e)
  place_kinds needs may tmf.TxnUsed e h = absurd h
  place_kinds needs may tmf.NoTxn e h = may no.Txn tt
  place_kinds needs may tmf.NoVolume e h = may no.Volume tt
  place_kinds needs may (tmf.Locked by) e h = may (no.Locked by) tt
  place_kinds needs may tmf.Exists e h = may no.Exists h
  place_kinds needs may tmf.Missing e h = may no.Missing h
  place_kinds needs may (tmf.Node fault) e h = tt

  pub begin_kinds : MayRefuse l no.Used → (w : TmfFault) → says_down w ≡ false → ours.IsOfBegin w → IfOk (refused w) (λ reply. MayAnswer l reply)
  begin_kinds may tmf.Down e h = absurd (not_down e)
  begin_kinds may tmf.TxnUsed e h = may
  begin_kinds may (tmf.Node fault) e h = tt
  begin_kinds may _ e h = absurd h

  pub end_kinds : MayRefuse l no.Txn → (w : TmfFault) → says_down w ≡ false → ours.IsOfEnd w → IfOk (refused w) (λ reply. MayAnswer l reply)
  end_kinds may tmf.Down e h = absurd (not_down e)
  end_kinds may tmf.NoTxn e h = may
  end_kinds may (tmf.Node fault) e h = tt
  end_kinds may _ e h = absurd h

  pub scan_kinds : MayRefuse l no.Volume → (w : TmfFault) → says_down w ≡ false → ours.IsOfScan w → IfOk (refused w) (λ reply. MayAnswer l reply)
  scan_kinds may tmf.Down e h = absurd (not_down e)
  scan_kinds may tmf.NoVolume e h = may
  scan_kinds may (tmf.Node fault) e h = tt
  scan_kinds may _ e h = absurd h
