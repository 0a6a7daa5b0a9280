-- What is written is read again.
use Rattle.std.proofs.Common.{ℕ, List, Option, IfSome, sym, subst}
use Rattle.vbe_laws.specs.Again.{ReadAgain}
use Rattle.flatbeh_run.specs.Laws.{AreReadAs, FlatteningIsRead}

pub is_read : ReadAgain → FlatteningIsRead
is_read again c source catal cells p h limits =
    subst (λ (o : Option (List ℕ)). IfSome o (AreReadAs h.m)) (sym h.written.file) (record {
      is = λ k v. again.is h.m k h.checked h.names limits v;
      accepted = λ e r. again.accepted h.m e h.checked h.names limits r;
    })
