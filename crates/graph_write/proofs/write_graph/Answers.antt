use Rattle.std.proofs.Common.{ℕ, sym, ap, ◌∙◌, length, arith}
use Rattle.graph.specs.Entries.{graph_in}
use Rattle.graph_content.specs.Used.{given_of}
use Rattle.graph_content.proofs.Faulting.{code-some}
use Rattle.graph_write.specs.declared.WrittenAnswer.{WrittenAnswer}
use Rattle.graph_write.proofs.Replying.{reply-small, reply-fault, reply-long, reply-short, reply-good, written_not, written_all}
use Rattle.graph_write.proofs.write_graph.Goals as goal

-- an acceptance
abbrev wrote : ℕ → WrittenAnswer
wrote b = record { number = 0; file = 0; place = 0; bytes = b }

pub returns-then-not-roomy : goal.returns-then-not-roomy
returns-then-not-roomy c =
    let a = c.args in
    let s = given_of a.n a.m a.k a.letters.now a.lengths.now a.edges.now a.paths.now a.counts.now in
    let room = length a.out.now in
    written_not s room _ _ _ _ _ (reply-small s room (sym c.roomy.ensures ∙ c.if-not-roomy.true)) c.refusal.ensures

pub returns-in-Err : goal.returns-in-Err
returns-in-Err c =
    let a = c.args in
    let s = given_of a.n a.m a.k a.letters.now a.lengths.now a.edges.now a.paths.now a.counts.now in
    let room = length a.out.now in
    let full = sym c.roomy.ensures ∙ c.if-not-roomy.false in
    written_not s room _ _ _ _ _ (reply-fault s room full _ c.in-Err.ensures (code-some c.in-Err.refusal)) c.fault.ensures

pub returns-then-bytes-gt-MOST_FILE_BYTES : goal.returns-then-bytes-gt-MOST_FILE_BYTES
returns-then-bytes-gt-MOST_FILE_BYTES c =
    let a = c.args in
    let s = given_of a.n a.m a.k a.letters.now a.lengths.now a.edges.now a.paths.now a.counts.now in
    let room = length a.out.now in
    let full = sym c.roomy.ensures ∙ c.if-not-roomy.false in
    let none = sym c.in_default.ensures in
    written_not s room _ _ _ _ _ (reply-long s room full none (omega arith)) c.fault-then-bytes-gt-MOST_FILE_BYTES.ensures

pub returns-then-out-bytes : goal.returns-then-out-bytes
returns-then-out-bytes c =
    let a = c.args in
    let s = given_of a.n a.m a.k a.letters.now a.lengths.now a.edges.now a.paths.now a.counts.now in
    let room = length a.out.now in
    let full = sym c.roomy.ensures ∙ c.if-not-roomy.false in
    let none = sym c.in_default.ensures in
    written_not s room _ _ _ _ _ (reply-short s room full none (omega arith) (omega arith)) c.refusal-then-out-bytes.ensures

pub returns : goal.returns
returns c =
    let a = c.args in
    let s = given_of a.n a.m a.k a.letters.now a.lengths.now a.edges.now a.paths.now a.counts.now in
    let room = length a.out.now in
    let full = sym c.roomy.ensures ∙ c.if-not-roomy.false in
    let none = sym c.in_default.ensures in
    let w = c.put_graph-written in
    written_all s room _ w.new.out (graph_in s) _ (reply-good s room full none (omega arith) (omega arith)) (ap wrote w.ensures.0) w.ensures.1
