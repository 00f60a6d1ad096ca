-- The fronts of URLs of a server's own.
use Rattle.std.specs.Prelude.{◌==◌, ◌&&◌, ◌||◌, [], ◌∷◌, length, drop, decimal}
use Rattle.hc_base.specs.Bytes.{colon}
use Rattle.hc_dfa.specs.Singles.{single}
use Rattle.hc_dfa.specs.Texts.{TextSet}
use Rattle.hc_follow.specs.Next.{front_of}
use Rattle.hc_follow.specs.declared.origin.Origin.{Origin}
use Rattle.hc_target.specs.Urls.{begins_without_case}
use Rattle.hc_template.specs.Variables.{default_port}

-- Nothing stands for the scheme's default port.
abbrev pub is_port : Origin → TextSet
is_port origin text = single (colon ∷ decimal origin.port) text
    || ((origin.port == default_port origin.scheme) && single [] text)

-- The scheme and the host without case, and the port.
abbrev pub is_root : Origin → TextSet
is_root origin text = begins_without_case (front_of origin) text
    && is_port origin (drop (length (front_of origin)) text)
