use Rattle.hc_abs_map.proofs.Common.{None, ap, refl}
use Rattle.std.specs.Option.{option_map}
use Rattle.hc_abs_map.proofs.Targets.{rooted, rootless}
use Rattle.hc_abs_map.proofs.map.add_under_root.Goals as goal

pub returns-in_default-root : goal.returns-in_default-root
returns-in_default-root c =
    rootless c.args.slot (option_map (λ root. root.now) c.args.root) c.args.rest c.in-Some.tied c.args.found.now.items
    c.push.new.self.items c.in-Some.is (ap (option_map (λ root. root.now)) c.in_default-root.is)
    c.in_ok-push.ensures.items

pub returns : goal.returns
returns c =
    rooted c.args.slot (option_map (λ root. root.now) c.args.root) c.args.rest c.in-Some.tied c.args.found.now.items
    c.push-2.new.self.items c.in-Some.is c.in-Some-root.root.now
    (record { tied = c.in-Some.tied; text = c.in_ok-text.text; side = None })
    (ap (option_map (λ root. root.now)) c.in-Some-root.is) refl refl c.in_ok-text.ensures c.in_ok-push-2.ensures.items
