-- `running::run` meets its contract: each turn goes on, or stops the script.
use Rattle.std.proofs.Common.{◌≡◌, ◌+◌, ◌-◌, ◌/◌, List, [], ◌∷◌, length, sym, ap, ◌∙◌, arith}
use Rattle.rules.specs.declared.Step.{Step}
use Rattle.rewriting.specs.Script.{steps_from, run_from}
use Rattle.rewriting.specs.Through.{through_steps}
use Rattle.rewriting.specs.Follow.{followed_places}
use Rattle.rewriting.proofs.ScriptTurns.{turn_on, turn_off, step_next}
use Rattle.rewriting.proofs.ThroughSteps.{through_on, through_off}
use Rattle.rewriting.proofs.FollowedPlaces.{places_stepped, past_refused}
use Rattle.rewriting.proofs.running.run.Goals as goal

pub loop-i-preserved : goal.loop-i-preserved
loop-i-preserved c =
    let a = c.args in
    let l = c.loop-i in
    let is = l.invariant in
    let s = c.step_at.result in
    let rest = steps_from a.steps.now (l.i + 1) (length a.steps.now / 8 - (l.i + 1)) in
    let f = followed_places a.table.now.counts.inputs (length a.places.now) in
    let front = step_next a.steps.now (length a.steps.now / 8) l.i c.if-n-i.false ∙ ap (λ (q : Step). q ∷ rest) (sym c.step_at.ensures) in
    let done = c.take_followed-reply.ensures.stepped in
    let on = turn_on l.table.sound done l.progress c.after-progress.result c.after-progress.ensures is.used (sym c.is_some.ensures ∙ c.if-is_some.false) in
    let past : c.take_followed-reply.new.places ≡ through_steps f l.table.bytes.now l.progress.used (s ∷ []) l.places =
    rw (is.used, ← is.inputs, ← l.auto.places) c.take_followed-reply.ensures.places
    in
    record {
      lent = c.take_followed-reply.ensures.same_reference ∙ is.lent;
      few = omega (arith, on.more, is.few);
      short = is.short;
      going = on.unstopped;
      used = on.used;
      inputs = on.inputs ∙ is.inputs;
      within = rw c.take_followed-reply.auto.places (places_stepped l.table.sound done is.within c.take_followed-reply.ensures.places);
      rest = is.rest ∙ ap (run_from l.progress.taken l.table.bytes.now l.progress.used) front ∙ on.onward rest;
      places = is.places
          ∙ ap (λ (q : List Step). through_steps f l.table.bytes.now l.progress.used q l.places) front
          ∙ through_on f l.table.bytes.now l.progress.used s rest c.after-progress.result.used l.places on.taken (rw is.used done.bytes) past;
    }

pub returns-then-is_some-clause-reply : goal.returns-then-is_some-clause-reply
returns-then-is_some-clause-reply c =
    let a = c.args in
    let l = c.loop-i in
    let rest = steps_from a.steps.now (l.i + 1) (length a.steps.now / 8 - (l.i + 1)) in
    let front = step_next a.steps.now (length a.steps.now / 8) l.i c.if-n-i.false ∙ ap (λ (q : Step). q ∷ rest) (sym c.step_at.ensures) in
    let off = turn_off l.table.sound c.take_followed-reply.ensures.stepped l.progress c.after-progress.result c.after-progress.ensures l.invariant.used (sym c.is_some.ensures ∙ c.if-is_some.true) in
    off.ended rest ∙ sym (l.invariant.rest ∙ ap (run_from l.progress.taken l.table.bytes.now l.progress.used) front)

pub returns-then-is_some-clause-places : goal.returns-then-is_some-clause-places
returns-then-is_some-clause-places c =
    let a = c.args in
    let l = c.loop-i in
    let s = c.step_at.result in
    let rest = steps_from a.steps.now (l.i + 1) (length a.steps.now / 8 - (l.i + 1)) in
    let f = followed_places a.table.now.counts.inputs (length a.places.now) in
    let front = step_next a.steps.now (length a.steps.now / 8) l.i c.if-n-i.false ∙ ap (λ (q : Step). q ∷ rest) (sym c.step_at.ensures) in
    let off = turn_off l.table.sound c.take_followed-reply.ensures.stepped l.progress c.after-progress.result c.after-progress.ensures l.invariant.used (sym c.is_some.ensures ∙ c.if-is_some.true) in
    c.take_followed-reply.ensures.places
    ∙ past_refused l.table.bytes.now l.table.counts s (length l.places) l.places off.refusal (rw (← l.invariant.used) off.refused)
    ∙ sym (through_off f l.table.bytes.now l.progress.used s rest off.refusal l.places off.refused)
    ∙ sym (l.invariant.places ∙ ap (λ (q : List Step). through_steps f l.table.bytes.now l.progress.used q l.places) front)
