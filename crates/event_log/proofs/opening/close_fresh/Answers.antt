use Rattle.std.proofs.Common.{ℕ, List, length, None, Result, Ok, Err, OnOk, IsTrue, subst}
use Rattle.estate.specs.Changes.{Torn, Holds, Step, Leads}
use Rattle.event_log.proofs.Starts.{fresh_keeps, fresh_started}
use Rattle.event_log.proofs.opening.close_fresh.Goals as goal

on_ok : {T E P Q : Type 0} (result : Result T E) → (P → Q) → OnOk result P → OnOk result Q
on_ok (Ok x) follows holds = follows holds
on_ok (Err e) follows holds = holds

pub returns-clause-writes : goal.returns-clause-writes
returns-clause-writes g c =
    let a = g.E.Estate.world c.args.estate.now in
    let b = g.E.Estate.world c.write_synced.new.estate in
    fresh_keeps a b (g.met.E.Estate.lawful c.args.estate.now) c.requires.fresh c.requires.synced
    (subst (λ (l : List ℕ). Leads (Step (Torn 0 (length l)) None None) a b) c.in_ok-gate.ensures c.write_synced.ensures.leads)

pub returns-clause-started : goal.returns-clause-started
returns-clause-started g c =
    let a = g.E.Estate.world c.args.estate.now in
    let b = g.E.Estate.world c.write_synced.new.estate in
    on_ok c.write_synced.result
    (λ written told. fresh_started a b (λ image here. subst (λ (l : List ℕ). Holds a.holding.log 0 l image.log) c.in_ok-gate.ensures (written (subst (λ t. IsTrue t) (c.write_synced.ensures.leads.time).told told) image here)))
    c.write_synced.ensures.durable
