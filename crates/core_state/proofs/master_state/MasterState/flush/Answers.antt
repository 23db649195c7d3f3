use Rattle.std.proofs.Common.{rules, length-append, rules, length-append, ◌≡◌, ℕ, ◌+◌, ◌<◌, List, [], ◌∷◌, ◌++◌, length, None, refl, sym, ◌∙◌, ap, subst, arith, inl, inr}
use Rattle.std.proofs.lemmas.Grind.{common_steps}
use Rattle.graph_model.specs.declared.event.Event.{Event}
use Rattle.event_codec.specs.Spelling.{events_bytes}
use Rattle.core_crashes.specs.Goes.{Goes, GoesSoundly}
use Rattle.core_crashes.specs.Standing.{IsFor, IsRight}
use Rattle.core_state.specs.contracts.master_state.MasterState.{the_view}
use Rattle.core_model.specs.Cores.{CoreState}
use Rattle.core_state.specs.contracts.master_state.MasterState.{the_view}
use Rattle.core_model.specs.Cores.{CoreState}
use Rattle.core_model.specs.declared.step.Step.{Step}
use Rattle.core_model.specs.declared.step.Step.TheVariants.{Flush}
use Rattle.core_state.specs.Steps.{TakesStep}
use Rattle.core_state.specs.contracts.master_state.MasterState.{the_view}
use Rattle.core_model.specs.Cores.{CoreState}
use Rattle.core_model.specs.declared.step.Step.{Step}
use Rattle.core_model.specs.declared.step.Step.TheVariants.{Flush}
use Rattle.core_state.specs.Steps.{TakesStep}
use Rattle.core_state.specs.Masters.{Master}
use Rattle.core_state.specs.Steps.{GoesSound}
use Rattle.core_state.specs.Writing.{AddsEvents, Wrote}
use Rattle.core_state.proofs.BlockFlushed.{goes_refused, soundly_refused, goes_landed, for_landed, right_landed, soundly_landed, held_fewer, flushed_core}
use Rattle.core_state.proofs.master_state.MasterState.flush.Goals as goal

pub returns-in_err-write_block-clause-goes : goal.returns-in_err-write_block-clause-goes
returns-in_err-write_block-clause-goes g c =
    let law = g.met.E.Estate.lawful in
    let m = c.self.inside in
    let a = g.E.Estate.world c.args.estate.now in
    let b = g.E.Estate.world c.write_block.new.estate in
    let stands = subst (λ (x : Master). IsFor x.job x.core a) (sym c.self.view_is) c.requires in
    let y : CoreState = record (the_view m).core { events = c.reserve_block.new.past.items ++ c.write_block.new.buffer.items; flushed = length c.reserve_block.new.past.items; log_end = c.write_block.new.log.end } in
    subst (λ (x : Master). Goes x.job x.core y a b) c.self.view_is
    (goes_refused (the_view m).job (the_view m).core m.past.items m.buffer.items refl refl a b (law c.args.estate.now) (law c.write_block.new.estate) stands
    c.reserve_block.new.past.items c.write_block.new.buffer.items c.write_block.new.log.end c.reserve_block.ensures.past c.write_block.ensures.items c.in_err-write_block.ensures.end c.write_block.ensures.adds)

pub returns-in_err-write_block-clause-sound : goal.returns-in_err-write_block-clause-sound
returns-in_err-write_block-clause-sound g c files right =
    let law = g.met.E.Estate.lawful in
    let m = c.self.inside in
    let a = g.E.Estate.world c.args.estate.now in
    let b = g.E.Estate.world c.write_block.new.estate in
    let stands = subst (λ (x : Master). IsFor x.job x.core a) (sym c.self.view_is) c.requires in
    let y : CoreState = record (the_view m).core { events = c.reserve_block.new.past.items ++ c.write_block.new.buffer.items; flushed = length c.reserve_block.new.past.items; log_end = c.write_block.new.log.end } in
    subst (λ (x : Master). GoesSoundly x.job files x.core y a b) c.self.view_is
    (soundly_refused (the_view m).job (the_view m).core m.past.items m.buffer.items refl refl a b (law c.args.estate.now) (law c.write_block.new.estate) stands
    c.reserve_block.new.past.items c.write_block.new.buffer.items c.write_block.new.log.end c.reserve_block.ensures.past c.write_block.ensures.items c.in_err-write_block.ensures.end c.write_block.ensures.adds files (subst (λ (x : Master). IsRight x.job files x.core a) (sym c.self.view_is) right))

pub returns-clause-goes : goal.returns-clause-goes
returns-clause-goes g c =
    let law = g.met.E.Estate.lawful in
    let m = c.self.inside in
    let a = g.E.Estate.world c.args.estate.now in
    let b = g.E.Estate.world c.write_block.new.estate in
    let stands = subst (λ (x : Master). IsFor x.job x.core a) (sym c.self.view_is) c.requires in
    let y : CoreState = record (the_view m).core { events = c.append_reserved.new.past.items ++ c.append_reserved.new.more.items; flushed = length c.append_reserved.new.past.items; log_end = c.write_block.new.log.end } in
    let p_is = c.append_reserved.ensures.items ∙ ap (λ (l : List Event). l ++ c.write_block.new.buffer.items) c.reserve_block.ensures.past ∙ ap (λ (l : List Event). m.past.items ++ l) c.write_block.ensures.items in
    let wrote = subst (λ (l : List Event). Wrote l m.log.end c.write_block.new.log.end a b) refl c.in_ok-write_block.ensures.wrote in
    subst (λ (x : Master). Goes x.job x.core y a b) c.self.view_is
    (goes_landed (the_view m).job (the_view m).core m.past.items m.buffer.items refl refl a b (law c.args.estate.now) (law c.write_block.new.estate) stands
    c.append_reserved.new.past.items c.append_reserved.new.more.items m.log.end c.write_block.new.log.end p_is c.append_reserved.ensures.none wrote)

pub returns-clause-stands : goal.returns-clause-stands
returns-clause-stands g c =
    let law = g.met.E.Estate.lawful in
    let m = c.self.inside in
    let a = g.E.Estate.world c.args.estate.now in
    let b = g.E.Estate.world c.write_block.new.estate in
    let stands = subst (λ (x : Master). IsFor x.job x.core a) (sym c.self.view_is) c.requires in
    let y : CoreState = record (the_view m).core { events = c.append_reserved.new.past.items ++ c.append_reserved.new.more.items; flushed = length c.append_reserved.new.past.items; log_end = c.write_block.new.log.end } in
    let p_is = c.append_reserved.ensures.items ∙ ap (λ (l : List Event). l ++ c.write_block.new.buffer.items) c.reserve_block.ensures.past ∙ ap (λ (l : List Event). m.past.items ++ l) c.write_block.ensures.items in
    let wrote = subst (λ (l : List Event). Wrote l m.log.end c.write_block.new.log.end a b) refl c.in_ok-write_block.ensures.wrote in
    subst (λ (x : Master). IsFor x.job y b) c.self.view_is
    (for_landed (the_view m).job (the_view m).core m.past.items m.buffer.items refl refl a b (law c.args.estate.now) (law c.write_block.new.estate) stands
    c.append_reserved.new.past.items c.append_reserved.new.more.items m.log.end c.write_block.new.log.end p_is c.append_reserved.ensures.none wrote)

pub returns-clause-sound : goal.returns-clause-sound
returns-clause-sound g c files right =
    let law = g.met.E.Estate.lawful in
    let m = c.self.inside in
    let a = g.E.Estate.world c.args.estate.now in
    let b = g.E.Estate.world c.write_block.new.estate in
    let stands = subst (λ (x : Master). IsFor x.job x.core a) (sym c.self.view_is) c.requires in
    let y : CoreState = record (the_view m).core { events = c.append_reserved.new.past.items ++ c.append_reserved.new.more.items; flushed = length c.append_reserved.new.past.items; log_end = c.write_block.new.log.end } in
    let p_is = c.append_reserved.ensures.items ∙ ap (λ (l : List Event). l ++ c.write_block.new.buffer.items) c.reserve_block.ensures.past ∙ ap (λ (l : List Event). m.past.items ++ l) c.write_block.ensures.items in
    let wrote = subst (λ (l : List Event). Wrote l m.log.end c.write_block.new.log.end a b) refl c.in_ok-write_block.ensures.wrote in
    subst (λ (x : Master). GoesSoundly x.job files x.core y a b) c.self.view_is
    (soundly_landed (the_view m).job (the_view m).core m.past.items m.buffer.items refl refl a b (law c.args.estate.now) (law c.write_block.new.estate) stands
    c.append_reserved.new.past.items c.append_reserved.new.more.items m.log.end c.write_block.new.log.end p_is c.append_reserved.ensures.none wrote files (subst (λ (x : Master). IsRight x.job files x.core a) (sym c.self.view_is) right))

pub returns-clause-right : goal.returns-clause-right
returns-clause-right g c files right =
    let law = g.met.E.Estate.lawful in
    let m = c.self.inside in
    let a = g.E.Estate.world c.args.estate.now in
    let b = g.E.Estate.world c.write_block.new.estate in
    let stands = subst (λ (x : Master). IsFor x.job x.core a) (sym c.self.view_is) c.requires in
    let y : CoreState = record (the_view m).core { events = c.append_reserved.new.past.items ++ c.append_reserved.new.more.items; flushed = length c.append_reserved.new.past.items; log_end = c.write_block.new.log.end } in
    let p_is = c.append_reserved.ensures.items ∙ ap (λ (l : List Event). l ++ c.write_block.new.buffer.items) c.reserve_block.ensures.past ∙ ap (λ (l : List Event). m.past.items ++ l) c.write_block.ensures.items in
    let wrote = subst (λ (l : List Event). Wrote l m.log.end c.write_block.new.log.end a b) refl c.in_ok-write_block.ensures.wrote in
    subst (λ (x : Master). IsRight x.job files y b) c.self.view_is
    (right_landed (the_view m).job (the_view m).core m.past.items m.buffer.items refl refl a b (law c.args.estate.now) (law c.write_block.new.estate) stands
    c.append_reserved.new.past.items c.append_reserved.new.more.items m.log.end c.write_block.new.log.end p_is c.append_reserved.ensures.none wrote files (subst (λ (x : Master). IsRight x.job files x.core a) (sym c.self.view_is) right))

pub returns-clause-adds : goal.returns-clause-adds
returns-clause-adds g c = inr (inl (events_bytes c.self.inside.buffer.items, c.in_ok-write_block.ensures.wrote.adds))

pub returns-clause-took : goal.returns-clause-took
returns-clause-took g c =
    let law = g.met.E.Estate.lawful in
    let m = c.self.inside in
    let a = g.E.Estate.world c.args.estate.now in
    let b = g.E.Estate.world c.write_block.new.estate in
    let stands = subst (λ (x : Master). IsFor x.job x.core a) (sym c.self.view_is) c.requires in
    let p_is = c.append_reserved.ensures.items ∙ ap (λ (l : List Event). l ++ c.write_block.new.buffer.items) c.reserve_block.ensures.past ∙ ap (λ (l : List Event). m.past.items ++ l) c.write_block.ensures.items in
    let y : CoreState = record (the_view m).core { events = c.append_reserved.new.past.items ++ c.append_reserved.new.more.items; flushed = length c.append_reserved.new.past.items; log_end = c.write_block.new.log.end } in
    let z : Master = record { job = (the_view m).job; core = y; trace = c.push_reserved.new.self.items } in
    let wrote = subst (λ (l : List Event). Wrote l m.log.end c.write_block.new.log.end a b) refl c.in_ok-write_block.ensures.wrote in
    let some : 0 < c.len-events.result = first_of (search rules, grind (arith, common_steps), omega (arith, ap length c.write_block.ensures.items)) in
    let count : length m.past.items + c.len-events.result ≡ length (m.past.items ++ m.buffer.items) = first_of (omega (arith, length-append m.past.items m.buffer.items, ap length c.write_block.ensures.items), grind (arith, common_steps, length-append m.past.items m.buffer.items, ap length c.write_block.ensures.items)) in
    subst (λ (x : Master). TakesStep (Flush c.len-events.result) x z a b) c.self.view_is
    (record {
      job = refl;
      takes = record {
        moves = record {
          some = some;
          count_is = count;
          log_end = c.write_block.new.log.end;
          is = flushed_core (the_view m).job (the_view m).core m.past.items m.buffer.items refl refl a b (law c.args.estate.now) (law c.write_block.new.estate) stands c.append_reserved.new.past.items c.append_reserved.new.more.items m.log.end c.write_block.new.log.end p_is c.append_reserved.ensures.none wrote;
        };
        told = wrote.adds.time.told;
        held = held_fewer _ None (the_view m).core y (Flush c.len-events.result) a b wrote.adds;
      };
      trace = c.push_reserved.ensures.items ∙ ap (λ (l : List Step). l ++ Flush c.len-events.result ∷ []) c.reserve_block.ensures.trace;
    })
